-- What each step of a `Chan` does, and what a list of them does.
use Rattle.std.specs.Prelude.{◌≡◌, ◌≤◌, List, [], ◌∷◌, Option}
use Rattle.flume_model.specs.declared.step.Step.{Step}
use Rattle.flume_model.specs.declared.step.Reply.{Reply}
use Rattle.flume_model.specs.declared.step.Reply.TheVariants.{NoMemory}
use Rattle.flume_state.specs.Due.{BecomesDue}
use Rattle.flume_state.specs.State.{State}
use Rattle.flume_core.specs.Represents.{Extends, IsReachable, ChangesNothing}
use Rattle.flume_core.specs.PossibleReply.{PossibleReply}
use Rattle.flume_core.specs.NoMemoryRule.{ChanMayAllocate}

module _ {T A S : Type 0} where
  -- a step, answered so, leads from the old state to the new one: all that `Chan::step` says of it
  pub record IsTransition (old : State T S) (step : Step T) (reply : Reply T A) (new : State T S)
      : Type 0 where
    pub extends : Extends old step reply new
    pub becomes_due : IsReachable A old → BecomesDue old step reply new
    pub possible_reply : PossibleReply step reply
    pub space : old.space ≤ new.space
    pub refused : (back : Option T) → reply ≡ NoMemory back → ChanMayAllocate old step
    pub unchanged : ChangesNothing step reply → new ≡ old

  -- the steps, each with the reply at its place, lead from the old state to the new one
  abbrev pub AreTransitions : State T S → List (Step T) → List (Reply T A) → State T S → Type 0
  AreTransitions old [] [] new = new ≡ old
  AreTransitions old (step ∷ steps) (reply ∷ replies) new =
      (mid : State T S) × IsTransition old step reply mid × AreTransitions mid steps replies new
  AreTransitions old _ _ new = ⊥
