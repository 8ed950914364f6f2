use Rattle.flume_model.proofs.waits.WaitingLaws.{entries_apart, sides_apart}
use Rattle.flume_model.proofs.laws.waits.tickets_of_receivers_are_apart.Goals as goal

pub returns : goal.returns
returns g c = record { entries = entries_apart; sides = sides_apart }
