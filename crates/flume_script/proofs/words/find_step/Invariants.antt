use Rattle.std.proofs.Common.{◌≢◌, take}
use Rattle.std.specs.List.{All}
use Rattle.flume_script.specs.Script.{step_parts}
use Rattle.flume_script.proofs.words.find_step.Given as goal

-- no step before this place has these parts
abbrev pub invariant-loop-step : goal.invariant-loop-step
invariant-loop-step l = All (λ step. step_parts step ≢ (l.word, l.number)) (take l.step-index l.steps)
