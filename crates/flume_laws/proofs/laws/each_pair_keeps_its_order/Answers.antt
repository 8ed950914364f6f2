use Rattle.flume_laws.proofs.RouteLemmas.{routed}
use Rattle.flume_laws.proofs.laws.each_pair_keeps_its_order.Goals as goal

pub returns : goal.returns
returns g c = record { law = routed }
