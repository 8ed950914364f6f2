use Rattle.flume_model.proofs.waits.WaitingLaws.{nobody_stuck}
use Rattle.flume_model.proofs.laws.waits.nobody_is_stuck.Goals as goal

pub returns : goal.returns
returns g c = record { law = nobody_stuck }
