-- The idle steps are taken out, one by one.
use Rattle.judge_calls.proofs.IdleStepLemmas.{explained_lean}
use Rattle.judge_calls.proofs.laws.idle_steps_are_needless.Goals as goal

pub returns : goal.returns
returns g c = record { no_idle = explained_lean g.T.PartialEq.eq }
