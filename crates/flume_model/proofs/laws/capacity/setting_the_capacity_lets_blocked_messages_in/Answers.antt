use Rattle.flume_model.proofs.ResizeLemmas.{resized}
use Rattle.flume_model.proofs.laws.capacity.setting_the_capacity_lets_blocked_messages_in.Goals as goal

pub returns : goal.returns
returns g c = record { law = resized }
