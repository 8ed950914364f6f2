use Rattle.flume_model.proofs.ResizeLemmas.{twice_resized}
use Rattle.flume_model.proofs.laws.capacity.lowering_keeps_what_raising_let_in.Goals as goal

pub returns : goal.returns
returns g c = record { law = twice_resized }
