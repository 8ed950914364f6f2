use Rattle.flume_model.proofs.waits.WaitingLaws.{bounded}
use Rattle.flume_model.proofs.laws.waits.queued_and_waiting_are_bounded.Goals as goal

pub returns : goal.returns
returns g c = record { law = bounded }
