use Rattle.std.proofs.Common.{◌≡◌, ap, arith, sym, ◌∙◌}
use Rattle.flume_model.specs.Entries.{all_woken, waiting_count}
use Rattle.flume_state.specs.Notices.{due_now}
use Rattle.flume_state.proofs.EntryRoundLemmas.{all_idle, all_on, fewer_of}
use Rattle.flume_state.proofs.entries.Entries.wake_all.Goals as goal

pub loop-self-smaller : goal.loop-self-smaller
loop-self-smaller g c =
    let count = c.self.invariant.count ∙ ap waiting_count c.self.view_is in
    rw c.wake_next.ensures.woken (fewer_of due_now _ (rw (← count) c.loop-self-test.true))

pub loop-self-preserved : goal.loop-self-preserved
loop-self-preserved g c = ap (all_woken due_now) c.wake_next.ensures.woken ∙ all_on due_now c.loop-self.self ∙ c.loop-self.invariant

pub returns : goal.returns
returns g c =
    let none : waiting_count c.loop-self.self ≡ 0 =
    omega (arith, c.self.invariant.count ∙ ap waiting_count c.self.view_is, c.loop-self-test.false) in
    record { woken = sym (all_idle due_now c.loop-self.self none) ∙ c.loop-self.invariant }
