-- What a contract sees of a book, and what a step through it leaves.
use Rattle.std.specs.Prelude.{◌≡◌, ℕ, List, [], ◌∷◌, ◌++◌, length, reverse, Option}
use Rattle.flume_model.specs.declared.step.Step.{Step}
use Rattle.flume_model.specs.declared.step.Reply.{Reply}
use Rattle.flume_model.specs.Log.{opens}
use Rattle.flume_state.specs.State.{State, new_state}
use Rattle.flume_state.specs.Due.{BecomesDue}
use Rattle.flume_core.specs.Represents.{Represents}
use Rattle.flume_core.specs.Transitions.{IsTransition}
use Rattle.flume_audit.specs.declared.receipt.Receipt.{Receipt}
use Rattle.flume_model.specs.Replies.{SameReply}

-- steps with their replies, the oldest first
abbrev pub History : Type 0 → Type 0 → Type 0
History T A = List (Step T × Reply T A)

-- what a contract sees of a book
pub record Recorded (T A : Type 0) : Type 0 where
  pub opening : Option ℕ
  pub history : History T A
  pub channel : State T (Unit {0})

module _ {T A : Type 0} where
  -- a book of a new channel
  abbrev pub new_book : Option ℕ → Recorded T A
  new_book capacity = record {
    opening = capacity;
    history = [];
    channel = new_state (opens capacity 1);
  }

  -- the history led to the channel
  abbrev pub IsChannelOfHistory : Recorded T A → Type 0
  IsChannelOfHistory book =
      Represents {A = A} (opens book.opening 1) (reverse book.history) book.channel

  -- one core step of the channel, with its reply and the tickets that are due after it
  pub record IsCoreStep (old : State T (Unit {0})) (step : Step T) (reply : Reply T A)
      (new : State T (Unit {0})) : Type 0 where
    pub stepped : IsTransition old step reply new
    pub becomes_due : BecomesDue old step reply new

  -- a step of a book by a seat: the receipt and the answer have copies of the reply
  pub record IsRecorded (old : Recorded T A) (seat : List (Receipt T A)) (step : Step T)
      (answer : Reply T A) (new : Recorded T A) (after : List (Receipt T A)) : Type 0 where
    pub reply : Reply T A
    pub receipt_reply : Reply T A
    pub channel : IsCoreStep old.channel step reply new.channel
    pub history : new.history ≡ old.history ++ (step, reply) ∷ []
    pub opening : new.opening ≡ old.opening
    pub receipt :
        after ≡ seat
        ++ record { number = length old.history; step = step; reply = receipt_reply } ∷ []
    pub receipt_same : SameReply reply receipt_reply
    pub answer_same : SameReply reply answer

  -- a seat gained a receipt of the step, with the answered reply
  abbrev pub GainsReceipt : List (Receipt T A) → Step T → Reply T A → List (Receipt T A) → Type 0
  GainsReceipt seat step answer after =
      (number : ℕ) × (reply : Reply T A) × (receipt_reply : Reply T A)
      × SameReply reply receipt_reply × SameReply reply answer
      × (after ≡ seat ++ record { number = number; step = step; reply = receipt_reply } ∷ [])
