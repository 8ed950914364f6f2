-- What a batch of steps does to the logs that represented the state before it.
use Rattle.std.proofs.Common.{List, ◌∷◌}
use Rattle.flume_model.specs.declared.step.Step.{Step}
use Rattle.flume_model.specs.declared.step.Reply.{Reply}
use Rattle.flume_model.specs.Log.{Log, Opening}
use Rattle.flume_state.specs.State.{State}
use Rattle.flume_core.specs.Represents.{Represents}
use Rattle.flume_calls.specs.Batches.{StepsBetween, NoSteps, FirstStep, log_after}

module _ {T A S : Type 0} where
  -- each log goes on with the steps and their replies
  pub led_log : {old new : State T S} {made : List (Step T × Reply T A)} → StepsBetween old made new
      → (opening : Opening) (log : Log T A) → Represents opening log old → Represents opening (log_after log made) new
  led_log NoSteps opening log represents = represents
  led_log (FirstStep {step = step} {reply = reply} stepped rest) opening log represents =
      led_log rest opening ((step, reply) ∷ log) (stepped.extends opening log represents)
