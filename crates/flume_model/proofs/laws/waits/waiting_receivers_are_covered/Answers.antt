use Rattle.flume_model.proofs.waits.WaitingLaws.{covered}
use Rattle.flume_model.proofs.laws.waits.waiting_receivers_are_covered.Goals as goal

pub returns : goal.returns
returns g c = record { law = covered }
