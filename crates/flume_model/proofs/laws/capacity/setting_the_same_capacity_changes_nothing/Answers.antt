use Rattle.flume_model.proofs.ResizeLemmas.{same_resized}
use Rattle.flume_model.proofs.laws.capacity.setting_the_same_capacity_changes_nothing.Goals as goal

pub returns : goal.returns
returns g c = record { law = same_resized }
