use Rattle.std.proofs.Common.{length}
use Rattle.judge_calls.specs.Texts.{behind_space}
use Rattle.judge_calls.proofs.SpacedNumberLemmas.{ReadNumbers}
use Rattle.judge_calls.proofs.numbers.numbers_of.Given as goal

-- the numbers so far are the list
abbrev pub invariant-loop-rest : goal.invariant-loop-rest
invariant-loop-rest g l = ReadNumbers l.text l.list.items (behind_space l.rest)

abbrev pub decreases-loop-rest : goal.decreases-loop-rest
decreases-loop-rest g l = length (behind_space l.rest)
