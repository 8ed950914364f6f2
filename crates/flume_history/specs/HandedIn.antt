-- What a step that ran out of memory is answered with.
use Rattle.std.specs.Prelude.{Option, Some, None}
use Rattle.flume_model.specs.declared.step.Step.{Step}
use Rattle.flume_model.specs.declared.step.Step.TheVariants.{TrySend, Send}

module _ {T : Type 0} where
  -- the message that a step hands in, which comes back if memory ran out
  abbrev pub handed_in : Step T → Option T
  handed_in (TrySend message) = Some message
  handed_in (Send message) = Some message
  handed_in _ = None
