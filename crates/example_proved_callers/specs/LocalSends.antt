-- Which steps a send made on the channel of a gate, and how it ended.
use Rattle.std.specs.Prelude.{◌≡◌, ℕ, Option, [], ◌∷◌, ◌++◌, false}
use Rattle.flume_model.specs.declared.step.Step.{Step}
use Rattle.flume_model.specs.declared.step.Step.TheVariants.{TrySend, Send, PollSend, WithdrawSend}
use Rattle.flume_model.specs.declared.step.Reply.{Reply}
use Rattle.flume_model.specs.declared.step.Reply.TheVariants.{Sent, Full, Pending, Accepted}
use Rattle.flume_model.specs.declared.step.Reply.TheVariants.{NoTicket, Returned}
use Rattle.flume_model.specs.Log.{Log, Opening}
use Rattle.flume.specs.State.{State}
use Rattle.flume.specs.Represents.{Represents}

module _ {T S A : Type 0} where
  -- a log of the state before is one of the state after with these steps, the last one first
  abbrev pub Leads : State T S → Log T A → State T S → Type 0
  Leads old steps new =
      (opening : Opening) (log : Log T A) → Represents opening log old
      → Represents opening (steps ++ log) new

module _ {T S : Type 0} where
  -- this one step was made, and the answer is the table's to its reply
  pub record Makes (A : Type 0) {N : Type 0} (step : Step T) (table : Reply T A → N → Type 0)
      (old new : State T S) (answer : N) : Type 0 where
    pub reply : Reply T A
    pub leads : Leads old ((step, reply) ∷ []) new
    pub answered : table reply answer

  -- others made some steps, or none
  abbrev pub Others : Type 0 → State T S → State T S → Type 0
  Others A old new = (steps : Log T A) × Leads old steps new

module _ {T A : Type 0} where
  -- this reply says that the message of the send with this ticket isn't blocked any more
  abbrev pub IsAcceptedSend : ℕ → Step T → Reply T A → Type 0
  IsAcceptedSend ticket (PollSend same) Accepted = same ≡ ticket
  IsAcceptedSend ticket (PollSend same) NoTicket = same ≡ ticket
  IsAcceptedSend ticket (WithdrawSend same) Accepted = same ≡ ticket
  IsAcceptedSend ticket (WithdrawSend same) NoTicket = same ≡ ticket
  IsAcceptedSend ticket _ _ = ⊥

  -- the message blocks under this ticket
  abbrev pub blocking_steps : T → ℕ → Log T A
  blocking_steps message ticket =
      (Send message, Pending ticket) ∷ (TrySend message, Full message) ∷ []

  -- the steps of a send whose message was taken in
  pub data Offers (message : T) : Log T A → Type 0 where
    First : (filled : Option ℕ) → Offers message ((TrySend message, Sent filled) ∷ [])
    Second : (filled : Option ℕ)
        → Offers message ((Send message, Sent filled) ∷ (TrySend message, Full message) ∷ [])
    Later : (ticket : ℕ) (others : Log T A) (step : Step T) (reply : Reply T A)
        → IsAcceptedSend ticket step reply
        → Offers message ((step, reply) ∷ others ++ blocking_steps message ticket)

module _ {T S : Type 0} where
  -- a send whose message was taken in
  abbrev pub IsSent : Type 0 → T → State T S → State T S → Type 0
  IsSent A message old new =
      (steps : Log T A) × Leads old steps new × Offers message steps

  -- a send ended at its deadline: its message blocked, and its last step took it back
  pub record IsTakenBack (A : Type 0) (message back : T) (old new : State T S) : Type 0 where
    pub ticket : ℕ
    pub others : Log T A
    pub leads : Leads {A = A} old
        ((WithdrawSend ticket, Returned back false) ∷ others ++ blocking_steps message ticket) new
    pub same : back ≡ message
