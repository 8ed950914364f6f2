use Rattle.flume_model.proofs.order.TicketLemmas.{handed_out_stay}
use Rattle.flume_model.proofs.laws.withdrawals_move_nothing_handed_out.Goals as goal

pub returns : goal.returns
returns g c = record { law = handed_out_stay }
