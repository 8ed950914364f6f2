use Rattle.std.proofs.Common.{◌≡◌, ◌-◌, sym, ap, subst, ◌∙◌, option_and_then}
use Rattle.flume_state.specs.layout.MessageLayout.{TakesOut, messages_of, space_of}
use Rattle.flume_state.proofs.MessageSpaceLemmas.{space_without}
use Rattle.flume_state.proofs.WithdrawalLemmas.{Withdrawn, absent, some_holds, withdraws}
use Rattle.flume_state.proofs.messages.MessageChain.withdraw.Given.{Over}
use Rattle.flume_state.proofs.messages.MessageChain.withdraw.Goals as goal

pub returns-in_err-send_place_at-clause-absent : goal.returns-in_err-send_place_at-clause-absent
returns-in_err-send_place_at-clause-absent g c =
    rw c.from_residual.ensures (absent _ _ _ _ c.self.view_is c.facts.ensures.apart c.in_err-send_place_at.ensures.send_place)

pub returns-in_err-element-clause-absent : goal.returns-in_err-element-clause-absent
returns-in_err-element-clause-absent g c =
    rw c.from_residual-in_err-element.ensures
    (absent _ _ _ _ c.self.view_is c.facts.ensures.apart (ap (option_and_then (λ e. e.label)) c.in_err-element.ensures.found))

pub invariant_of-self : goal.invariant_of-self
invariant_of-self g c = rw c.in_err-element.ensures.unchanged c.self.invariant

pub overflow_sub-self : goal.overflow_sub-self
overflow_sub-self g c = some_holds _ _ _ _ _ c.self.invariant c.in_ok-send_place_at.ensures.send_place

message_leaves : (g : Over) (c : goal.After-self-1 g)
    → Withdrawn c.self.inside.chain.items c.remove.new.self.items c.first_without-first.result (c.self.inside.blocked_len - 1)
    (space_of c.self.inside.chain) c.args.place c.args.self.now
message_leaves g c =
    let e = c.first_without-first.ensures in
    withdraws _ _ _ _ _ _ _ _ _ c.self.invariant c.self.view_is c.facts.ensures.apart c.in_ok-send_place_at.ensures.send_place
    (e.next, e.same) c.in_ok-element.ensures.taken

pub invariant_of-self-2 : goal.invariant_of-self-2
invariant_of-self-2 g c = (message_leaves g c).layout

pub returns-clause-taken : goal.returns-clause-taken
returns-clause-taken g c =
    let e = c.in_ok-element.ensures in
    let r = message_leaves g c in
    let both = sym r.is ∙ sym e.found in
    let same : r.element.value ≡ c.in_ok-element.element.value = cc in
    let space : space_of c.self.inside.chain ≡ space_of c.remove.new.self =
    space_without c.self.inside.chain c.remove.new.self c.args.place r.element (c.facts.ensures.apart _) r.is e.taken e.room in
    rw (← same) (subst (λ n. TakesOut c.args.self.now (messages_of c.remove.new.self.items n) c.args.place r.element.value) space r.takes)
