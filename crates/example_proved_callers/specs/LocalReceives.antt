-- Which steps a receive made on the channel of a gate, and how it ended.
use Rattle.std.specs.Prelude.{◌≡◌, ℕ, Option, [], ◌∷◌, ◌++◌, false}
use Rattle.flume_model.specs.declared.step.Kind.TheVariants.{Block}
use Rattle.flume_model.specs.declared.step.Step.{Step}
use Rattle.flume_model.specs.declared.step.Step.TheVariants.{TryRecv, Recv, Poll, Withdraw}
use Rattle.flume_model.specs.declared.step.Reply.TheVariants.{Got, Empty, Parked, Gone}
use Rattle.flume_model.specs.Log.{Log}
use Rattle.flume.specs.State.{State}
use Rattle.example_proved_callers.specs.LocalSends.{Leads}

module _ {T : Type 0} where
  -- a step of the receiver parked under this ticket: it asks, or leaves
  abbrev pub IsOfReceiver : ℕ → Step T → Type 0
  IsOfReceiver ticket (Poll same) = same ≡ ticket
  IsOfReceiver ticket (Withdraw same) = same ≡ ticket
  IsOfReceiver ticket _ = ⊥

module _ {T A : Type 0} where
  -- a receiver parks under this ticket
  abbrev pub parking_steps : ℕ → Log T A
  parking_steps ticket = (Recv Block, Parked ticket) ∷ (TryRecv, Empty) ∷ []

  -- the steps of a receive that got this message
  pub data Gets (message : T) : Log T A → Type 0 where
    First : Gets message ((TryRecv, Got message) ∷ [])
    Second : Gets message ((Recv Block, Got message) ∷ (TryRecv, Empty) ∷ [])
    Later : (ticket : ℕ) (others : Log T A) (step : Step T) → IsOfReceiver ticket step
        → Gets message ((step, Got message) ∷ others ++ parking_steps ticket)

module _ {T S : Type 0} where
  -- a receive that got this message
  abbrev pub IsReceived : Type 0 → T → State T S → State T S → Type 0
  IsReceived A message old new =
      (steps : Log T A) × Leads old steps new × Gets message steps

  -- a receive ended at its deadline: it parked, and left by its last step with no message
  pub record IsGivenUp (A : Type 0) (old new : State T S) : Type 0 where
    pub ticket : ℕ
    pub others : Log T A
    pub filled : Option ℕ
    pub leads : Leads {A = A} old
        ((Withdraw ticket, Gone false filled) ∷ others ++ parking_steps ticket) new
