-- A turn of one step.
use Rattle.flume_model.specs.declared.step.Step.{Step}
use Rattle.flume_model.specs.declared.step.Reply.{Reply}
use Rattle.flume_state.specs.State.{State}
use Rattle.flume_core.specs.Transitions.{IsTransition}

module _ {T S A N : Type 0} where
  -- the channel made this one step, and the turn answered to its reply as the table says
  pub record Turned (step : Step T) (table : Reply T A → N → Type 0) (old new : State T S)
      (answer : N) : Type 0 where
    pub reply : Reply T A
    pub stepped : IsTransition old step reply new
    pub answered : table reply answer
