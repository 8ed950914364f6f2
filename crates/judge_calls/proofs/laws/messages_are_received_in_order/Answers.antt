-- The second message was handed out first, so it was offered first.
use Rattle.judge_calls.proofs.InOrderLemmas.{in_order}
use Rattle.judge_calls.proofs.laws.messages_are_received_in_order.Goals as goal

pub returns : goal.returns
returns g c = record { order = in_order g.T.PartialEq.eq }
