use Rattle.flume_model.proofs.waits.WaitingLaws.{filled_if_named}
use Rattle.flume_model.proofs.laws.waits.receivers_are_filled_exactly_if_named.Goals as goal

pub returns : goal.returns
returns g c = record { law = filled_if_named }
