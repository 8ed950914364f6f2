-- What is done to a channel, as its history has it.
use Rattle.std.specs.Prelude.{◌≡◌, ◌<◌, ◌⊎◌, ℕ, Bool, true, false, List, length, filter, reverse}
use Rattle.std.specs.Prelude.{Option, Some, None}
use Rattle.flume_model.specs.declared.step.Step.{Step}
use Rattle.flume_model.specs.declared.step.Step.TheVariants.{TrySend, Send, PollSend, WithdrawSend}
use Rattle.flume_model.specs.declared.step.Step.TheVariants.{TryRecv, Recv, Poll, Withdraw, Drain}
use Rattle.flume_model.specs.declared.step.Step.TheVariants.{SetCapacity}
use Rattle.flume_model.specs.declared.step.Reply.{Reply}
use Rattle.flume_model.specs.Limits.{most}
use Rattle.flume_model.specs.Log.{opens}
use Rattle.flume_model.specs.Counts.{is_over}
use Rattle.flume_model.specs.Line.{line}
use Rattle.flume_model.specs.Replies.{IsRun}
use Rattle.flume_party.specs.Interleavings.{Interleaving}

-- a step with its reply; A is the allocator of the lists in replies
abbrev pub Action : Type 0 → Type 0 → Type 0
Action T A = Step T × Reply T A

module _ {T : Type 0} where
  -- whether a step sends, receives, or sets the capacity, which lets blocked messages in; the
  -- others, such as a clone or a query, move no message
  abbrev pub moves_message : Step T → Bool
  moves_message (TrySend message) = true
  moves_message (Send message) = true
  moves_message (PollSend ticket) = true
  moves_message (WithdrawSend ticket) = true
  moves_message TryRecv = true
  moves_message (Recv kind) = true
  moves_message (Poll ticket) = true
  moves_message (Withdraw ticket) = true
  moves_message Drain = true
  moves_message (SetCapacity capacity) = true
  moves_message _ = false

module _ {T A : Type 0} where
  -- whether the action is a party's: one that moves no message may be anybody's
  abbrev pub is_of_party : Action T A → Bool
  is_of_party action = moves_message action.0

  -- These actions of parties are all there were. A channel was opened with the capacity, and the
  -- history is all that was done to it, the oldest first. So many messages are left in it, or none
  -- is counted.
  pub record IsWhole (capacity : Option ℕ) (actions : List (Action T A)) (left : Option ℕ)
      : Type 0 where
    pub history : List (Action T A)
    -- the actions are those of the history that move messages
    pub all : actions ≡ filter is_of_party history
    -- each reply was the abstract channel's
    pub run : IsRun (opens capacity 1) (reverse history)
    -- so many are queued or blocked, and none was dropped with both sides
    pub counted : (n : ℕ) → left ≡ Some n
        → (length (line (reverse history)) ≡ n) × (is_over (reverse history) ≡ false)
    -- none is counted if both sides are gone, or if there are more than a usize can count
    pub uncounted : left ≡ None
        → (is_over (reverse history) ≡ true) ⊎ (most < length (line (reverse history)))

  -- These actions of a party stand, in their order, in all that was done to a channel, the oldest
  -- first. It was opened with the capacity.
  pub record IsPart (capacity : Option ℕ) (actions : List (Action T A)) : Type 0 where
    pub history : List (Action T A)
    pub others : List (Action T A)
    pub among : Interleaving actions others history
    -- each reply was the abstract channel's
    pub run : IsRun (opens capacity 1) (reverse history)
