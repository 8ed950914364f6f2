-- Sends of a list of messages: which steps are made, and what is answered.
use Rattle.std.specs.Prelude.{◌≡◌, ◌≢◌, ℕ, ◌+◌, ◌≤◌, Option, Some, List, [], ◌∷◌, ◌++◌, length}
use Rattle.std.specs.Prelude.{Result, Ok, Err}
use Rattle.std.specs.declared.collections.VecDeque.{VecDeque}
use Rattle.flume_model.specs.declared.step.Step.{Step}
use Rattle.flume_model.specs.declared.step.Step.TheVariants.{TrySend}
use Rattle.flume_model.specs.declared.step.Reply.{Reply}
use Rattle.flume_model.specs.declared.step.Reply.TheVariants.{Sent}
use Rattle.flume_model.specs.declared.step.Reply.TheVariants as reply
use Rattle.flume_model.specs.Limits as limits
use Rattle.flume_state.specs.State.{State, message_count}
use Rattle.flume_core.specs.Waiting.{FindsNoRoom}
use Rattle.flume_core.specs.declared.error.TrySendError.{TrySendError}
use Rattle.flume_core.specs.declared.error.TrySendError.TheVariants.{Full, Disconnected, NoMemory}

module _ {T A : Type 0} where
  -- each message is offered once, in order, up to the first that is refused; the error has the rest
  pub data SendsMany : List T → List (Step T × Reply T A)
      → Result (Unit {0}) (TrySendError (VecDeque T A)) → Type 0 where
    NoneLeft : SendsMany [] [] (Ok tt)
    TakenIn : {message : T} {rest : List T} {made : List (Step T × Reply T A)}
        {answer : Result (Unit {0}) (TrySendError (VecDeque T A))} (filled : Option ℕ)
        → SendsMany rest made answer
        → SendsMany (message ∷ rest) ((TrySend message, Sent filled) ∷ made) answer
    IsFull : {message : T} {rest : List T} {left : VecDeque T A} → left.items ≡ message ∷ rest
        → SendsMany (message ∷ rest) ((TrySend message, reply.Full message) ∷ [])
        (Err (Full left))
    IsClosed : {message : T} {rest : List T} {left : VecDeque T A} → left.items ≡ message ∷ rest
        → SendsMany (message ∷ rest) ((TrySend message, reply.Closed message) ∷ [])
        (Err (Disconnected left))
    IsRefused : {message : T} {rest : List T} {left : VecDeque T A} → left.items ≡ message ∷ rest
        → SendsMany (message ∷ rest) ((TrySend message, reply.NoMemory (Some message)) ∷ [])
        (Err (NoMemory left))

module _ {T : Type 0} where
  -- these are one of the messages and all behind it
  pub record IsRest (messages left : List T) : Type 0 where
    pub sent : List T
    pub first : T
    pub behind : List T
    pub left_is : left ≡ first ∷ behind
    pub messages_are : messages ≡ sent ++ left

module _ {T A : Type 0} where
  -- what a batch of sends may answer, whatever the channel
  abbrev pub LeavesRest : List T → Result (Unit {0}) (TrySendError (VecDeque T A)) → Type 0
  LeavesRest messages (Ok sent) = Unit {0}
  LeavesRest messages (Err (Full left)) = IsRest messages left.items
  LeavesRest messages (Err (Disconnected left)) = IsRest messages left.items
  LeavesRest messages (Err (NoMemory left)) = IsRest messages left.items

module _ {T S A : Type 0} where
  -- what the sends of these messages say of the states before and after, by their answer
  pub record SendManyOutcome (messages : List T) (old new : State T S)
      (answer : Result (Unit {0}) (TrySendError (VecDeque T A))) : Type 0 where
    pub full : (left : VecDeque T A) → answer ≡ Err (Full left) → FindsNoRoom new
    pub disconnected : (left : VecDeque T A) → answer ≡ Err (Disconnected left)
        → limits.IsClosed new.senders new.receivers
    pub no_memory : (left : VecDeque T A) → answer ≡ Err (NoMemory left)
        → new.space ≤ message_count new
    pub succeeds : message_count old + length messages ≤ old.space
        → (left : VecDeque T A) → answer ≢ Err (NoMemory left)
