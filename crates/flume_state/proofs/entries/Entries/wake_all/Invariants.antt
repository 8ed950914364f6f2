use Rattle.std.proofs.Common.{◌≡◌}
use Rattle.flume_model.specs.Entries.{all_woken, waiting_count}
use Rattle.flume_state.specs.Notices.{due_now}
use Rattle.flume_state.proofs.entries.Entries.wake_all.Given as goal

abbrev pub invariant-loop-self : goal.invariant-loop-self
invariant-loop-self g l = all_woken due_now l.self ≡ all_woken due_now l.initial.self

abbrev pub decreases-loop-self : goal.decreases-loop-self
decreases-loop-self g l = waiting_count l.self
