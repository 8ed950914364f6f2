use Rattle.flume_model.proofs.waits.WaitingLaws.{woken_block_while_closed}
use Rattle.flume_model.proofs.laws.waits.blocking_receivers_are_woken_only_by_closing.Goals as goal

pub returns : goal.returns
returns g c = record { law = woken_block_while_closed }
