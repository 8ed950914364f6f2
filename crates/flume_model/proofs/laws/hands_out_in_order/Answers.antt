use Rattle.flume_model.proofs.fills.FillsOrderLemmas.{in_order}
use Rattle.flume_model.proofs.laws.hands_out_in_order.Goals as goal

pub returns : goal.returns
returns g c = record { law = in_order }
