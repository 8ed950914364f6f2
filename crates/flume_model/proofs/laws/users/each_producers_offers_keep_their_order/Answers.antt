use Rattle.flume_model.proofs.users.ProducingLemmas.{handed_out_in_order}
use Rattle.flume_model.proofs.laws.users.each_producers_offers_keep_their_order.Goals as goal

pub returns : goal.returns
returns g c = record { law = handed_out_in_order }
