use Rattle.std.proofs.Common.{◌≡◌, length}
use Rattle.std.specs.Str.Lines.{lines}
use Rattle.judge_verdicts.specs.Kinds.{has_colon}
use Rattle.judge_verdicts.proofs.kind.has_colon.Given as goal

-- no word so far has a colon
abbrev pub invariant-loop-line : goal.invariant-loop-line
invariant-loop-line l = has_colon (lines l.initial.rest) ≡ has_colon (lines l.rest)

abbrev pub decreases-loop-line : goal.decreases-loop-line
decreases-loop-line l = length l.rest
