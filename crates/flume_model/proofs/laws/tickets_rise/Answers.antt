use Rattle.flume_model.proofs.order.RunLemmas.{tickets_rise}
use Rattle.flume_model.proofs.laws.tickets_rise.Goals as goal

pub returns : goal.returns
returns g c = record { law = tickets_rise }
