use Rattle.flume_model.proofs.waits.WaitingLaws.{nothing_once_over}
use Rattle.flume_model.proofs.laws.waits.nothing_is_left_once_over.Goals as goal

pub returns : goal.returns
returns g c = record { law = nothing_once_over }
