use Rattle.flume_model.proofs.waits.WaitingLaws.{waits_while_open}
use Rattle.flume_model.proofs.laws.waits.receivers_wait_only_while_open.Goals as goal

pub returns : goal.returns
returns g c = record { law = waits_while_open }
