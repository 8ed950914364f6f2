use Rattle.std.proofs.Common.{◌≡◌, length}
use Rattle.flume_state.specs.Effects.{after_admissions}
use Rattle.flume_core.proofs.chan.Chan.fill_up.Given as goal

abbrev pub invariant-loop-self : goal.invariant-loop-self
invariant-loop-self g l = after_admissions l.self ≡ after_admissions l.initial.self

abbrev pub decreases-loop-self : goal.decreases-loop-self
decreases-loop-self g l = length l.self.blocked
