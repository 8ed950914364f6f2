use Rattle.flume_model.proofs.ResizeLemmas.{stays_bounded_or_not}
use Rattle.flume_model.proofs.laws.capacity.a_channel_stays_bounded_or_unbounded.Goals as goal

pub returns : goal.returns
returns g c = record { law = stays_bounded_or_not }
