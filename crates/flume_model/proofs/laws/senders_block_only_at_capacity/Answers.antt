use Rattle.flume_model.proofs.order.RunLemmas.{blocked_at_capacity}
use Rattle.flume_model.proofs.laws.senders_block_only_at_capacity.Goals as goal

pub returns : goal.returns
returns g c = record { law = blocked_at_capacity }
