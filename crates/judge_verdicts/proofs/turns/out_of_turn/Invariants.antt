use Rattle.std.proofs.Common.{take, reverse}
use Rattle.judge_verdicts.specs.Turns.{AreInTurn, HasCalls}
use Rattle.judge_verdicts.proofs.turns.out_of_turn.Given as goal

-- the events before this place are in turn, and these calls are open
abbrev pub invariant-loop-place : goal.invariant-loop-place
invariant-loop-place g l = AreInTurn (reverse (take l.place l.events)) × HasCalls (reverse (take l.place l.events)) l.calls
