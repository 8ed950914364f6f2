use Rattle.flume_model.proofs.order.TicketLemmas.{live_are_kept, accepted_below_blocked}
use Rattle.flume_model.proofs.laws.accepted_tickets_are_below_blocked_ones.Goals as goal

pub returns : goal.returns
returns g c = record { kept = live_are_kept; below = accepted_below_blocked }
