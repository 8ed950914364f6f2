use Rattle.std.proofs.Common.{refl}
use Rattle.test_model.proofs.parked.bounds_are_met.Goals as goal

pub returns-clause-met : goal.returns-clause-met
returns-clause-met c = record { waits = refl; woken = refl; limit = 0; bounded = refl; queued = refl }
