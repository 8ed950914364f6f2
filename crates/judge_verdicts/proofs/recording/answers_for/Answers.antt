-- The thread is that of the answer.
use Rattle.judge_verdicts.proofs.recording.answers_for.Goals as goal

pub returns-in-Returns : goal.returns-in-Returns
returns-in-Returns g c = record { possible = rw c.in-Returns.is (c.answers_there.ensures.possible) }
