-- Each step waits for an event of its thread.
use Rattle.judge_calls.proofs.LateCallLemmas.{explained_late}
use Rattle.judge_calls.proofs.laws.steps_may_come_late.Goals as goal

pub returns : goal.returns
returns g c = record { late = explained_late g.T.PartialEq.eq }
