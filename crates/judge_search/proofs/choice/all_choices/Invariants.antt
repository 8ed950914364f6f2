use Rattle.std.proofs.Common.{take}
use Rattle.judge_search.proofs.StepLemmas.{AreStepsBut}
use Rattle.judge_search.proofs.choice.all_choices.Given as goal

-- each call before this one has its steps, but the own one
abbrev pub invariant-loop-call : goal.invariant-loop-call
invariant-loop-call g l = record { steps : AreStepsBut l.own l.choices.items (take l.call-index l.calls) }
