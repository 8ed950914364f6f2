-- What is received was handed out, and so it was offered.
use Rattle.judge_calls.proofs.UnsentLemmas.{unsent}
use Rattle.judge_calls.proofs.laws.only_what_was_sent_is_received.Goals as goal

pub returns : goal.returns
returns g c = record { sent = unsent g.T.PartialEq.eq }
