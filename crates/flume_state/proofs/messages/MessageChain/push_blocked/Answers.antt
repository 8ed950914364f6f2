use Rattle.std.proofs.Common.{None, sym, ap, arith, length, ◌∙◌, option_and_then}
use Rattle.flume_state.proofs.MessageLemmas.{counts}
use Rattle.flume_state.proofs.MessageSpaceLemmas.{length-put}
use Rattle.flume_state.proofs.MessageStepLemmas.{blocks}
use Rattle.flume_state.proofs.WithdrawalLemmas.{absent}
use Rattle.flume_state.proofs.messages.MessageChain.push_blocked.Goals as goal

pub overflow_sub-self : goal.overflow_sub-self
overflow_sub-self g c =
    let more = ap length c.in-Ok.ensures.pushed ∙ length-put _ None _ in
    let known = (counts _ _ _ _ _ c.self.invariant c.self.view_is).0 in
    omega (arith, more, known, c.queued_len-queued.ensures.len, c.len.ensures.len)

pub invariant_of-self : goal.invariant_of-self
invariant_of-self g c =
    let r = blocks _ _ _ _ _ _ _ 0 _ c.queued_len-queued.result c.len.result _ _ c.self.invariant c.self.view_is c.in-Ok.ensures.pushed
    c.in-Some.ensures.place
    c.queued_len-queued.ensures.len c.len.ensures.len in
    rw c.or-self-inside.ensures r.layout

pub returns-in-Ok-clause-pushed : goal.returns-in-Ok-clause-pushed
returns-in-Ok-clause-pushed g c =
    (blocks _ _ _ _ _ _ _ _ _ c.queued_len-queued.result c.len.result _ _ c.self.invariant c.self.view_is c.in-Ok.ensures.pushed
    c.in-Some.ensures.place
    c.queued_len-queued.ensures.len c.len.ensures.len).view

pub returns-in-Ok-clause-fresh : goal.returns-in-Ok-clause-fresh
returns-in-Ok-clause-fresh g c =
    absent _ _ _ _ c.self.view_is c.facts.ensures.apart (ap (option_and_then (λ e. e.label)) (sym c.in-Ok.ensures.fresh))
