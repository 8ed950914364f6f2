use Rattle.judge_search.specs.Search.{HasTaken}
use Rattle.judge_search.proofs.replay.make_choices.Given as goal

-- the items so far have the events that were taken
abbrev pub invariant-loop-choice : goal.invariant-loop-choice
invariant-loop-choice g l = record { taken : HasTaken l.events l.replay }
