-- A poll, of whichever call: what it may do to a channel.
use Rattle.std.specs.Prelude.{◌≡◌, ℕ}
use Rattle.flume_model.specs.declared.step.Step.{Step}
use Rattle.flume_model.specs.declared.step.Reply.{Reply}
use Rattle.flume_state.specs.State.{State}
use Rattle.flume_core.specs.Represents.{SameLogs}
use Rattle.flume_core.specs.Transitions.{IsTransition}
use Rattle.flume_calls.specs.Rings.{Rings}

module _ {T S : Type 0} (A : Type 0) where
  -- the channel made at most one step
  pub data AtMostOneStep (old new : State T S) : Type 0 where
    NoStep : new ≡ old → AtMostOneStep old new
    OneStep : (step : Step T) → (reply : Reply T A) → IsTransition old step reply new
        → AtMostOneStep old new

module _ {T S B : Type 0} (A : Type 0) (rings : B → ℕ → S → B → Type 0) where
  -- one poll, and then one ring of the bell for each ticket that is due
  pub record IsPollCall (polls : State T S → Type 0) (old : State T S) (bell : B)
      (new : State T S) (rung : B) : Type 0 where
    pub between : State T S
    pub polled : polls between
    pub step : AtMostOneStep A old between
    pub rang : Rings rings between bell new rung
    pub represents : SameLogs A between new
