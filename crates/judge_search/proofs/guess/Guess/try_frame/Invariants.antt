use Rattle.std.proofs.Common.{vec_len}
use Rattle.judge_search.proofs.guess.Guess.try_frame.Given as goal

-- each turn takes a choice away
abbrev pub invariant-loop-choice : goal.invariant-loop-choice
invariant-loop-choice g l = Unit

abbrev pub decreases-loop-choice : goal.decreases-loop-choice
decreases-loop-choice g l = vec_len l.frame.choices
