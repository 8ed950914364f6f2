-- Polls of a receive, as the users of a future or a stream see them.
use Rattle.std.specs.Prelude.{◌≡◌, ℕ, ◌+◌, ◌≤◌, Bool, true, false, List, ◌∷◌, ◌++◌, length}
use Rattle.std.specs.Prelude.{Option, Some, None, IsSome, Result, Ok, Err}
use Rattle.futures.specs.declared.task.Poll.{Poll}
use Rattle.futures.specs.declared.task.Poll.TheVariants.{Ready, Pending}
use Rattle.flume_core.specs.declared.error.RecvError.{RecvError}
use Rattle.flume_core.specs.declared.error.RecvError.TheVariants.{Disconnected, NoMemory}
use Rattle.flume_calls.specs.declared.polled.receive.PolledReceive.{PolledReceive}
use Rattle.flume_calls.specs.PolledReceives.{ReceivePoll}
use Rattle.flume.specs.declared.signal.Signal.{Signal}
use Rattle.flume.specs.LockedPolls.{HasPolled}

module _ {N : Type 0} where
  -- what a poll makes of its receive, by its answer
  pub record LeavesCall (old new : PolledReceive) (answer : Option (Result N RecvError))
      : Type 0 where
    pub kind : new.kind ≡ old.kind
    pub parked : answer ≡ None → IsSome new.call
    pub stays : answer ≡ None → IsSome old.call → new.call ≡ old.call
    pub got : (given : N) → answer ≡ Some (Ok given) → new.call ≡ None
    pub disconnected : answer ≡ Some (Err Disconnected) → new.call ≡ None
    pub no_memory : answer ≡ Some (Err NoMemory) → new.call ≡ old.call

module _ {T : Type 0} where
  -- what the receive of a stream answered, by the stream's item and fault
  abbrev pub answer_of_item : Poll (Option T) → Bool → Option (Result T RecvError)
  answer_of_item (Ready (Some message)) fault = Some (Ok message)
  answer_of_item (Ready None) true = Some (Err NoMemory)
  answer_of_item (Ready None) false = Some (Err Disconnected)
  answer_of_item Pending fault = None

module _ {T : Type 0} (A : Type 0) where
  -- one poll of a receive was made
  abbrev pub HasPolledReceive : PolledReceive → PolledReceive → Option (Result T RecvError) → Type 0
  HasPolledReceive = HasPolled {S = Signal A} A (λ old signal before after new answer.
      (new.kind ≡ old.kind) × ReceivePoll A old.kind old.call signal before after new.call answer)

module _ {T : Type 0} where
  -- what a poll of many adds to the list and answers, by what its receive answered
  abbrev pub AddsMore : ℕ → List T → Option (Result T RecvError) → List T
      → Option (Result ℕ RecvError) → Type 0
  AddsMore most before (Some (Ok message)) after answer = (more : List T)
      × (after ≡ before ++ message ∷ more) × (answer ≡ Some (Ok (length more + 1)))
      × (length more + 1 ≤ most)
  AddsMore most before (Some (Err error)) after answer =
      (after ≡ before) × (answer ≡ Some (Err error))
  AddsMore most before None after answer = (after ≡ before) × (answer ≡ None)

module _ {T : Type 0} (A : Type 0) where
  -- one poll of a receive was made, and if it gave a message others came, at most so many in all
  pub record HasPolledMany (most : ℕ) (before : List T) (old : PolledReceive) (after : List T)
      (new : PolledReceive) (answer : Option (Result ℕ RecvError)) : Type 0 where
    pub first : Option (Result T RecvError)
    pub polled : HasPolledReceive A old new first
    pub more : AddsMore most before first after answer
