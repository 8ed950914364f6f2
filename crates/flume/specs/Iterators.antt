-- Iterators over received messages, and drains.
use Rattle.std.specs.Prelude.{◌≡◌, ◌≢◌, ◌↔◌, ℕ, ◌+◌, ◌-◌, ◌^◌, Bool, true, false, List}
use Rattle.std.specs.Prelude.{Option, Some, None, IsSome, IsNone, Result, Ok, Err}
use Rattle.std.specs.Result.{result_ok, result_err}
use Rattle.flume_deadline.specs.declared.Deadline.{Deadline}
use Rattle.flume_deadline.specs.declared.Deadline.TheVariants.{Never}
use Rattle.flume_deadline.specs.Deadlines.{CanBeAhead}
use Rattle.flume_model.specs.declared.step.Step.TheVariants.{TryRecv}
use Rattle.flume_model.specs.declared.step.Reply.{Reply}
use Rattle.flume_model.specs.declared.step.Reply.TheVariants.{Drained}
use Rattle.flume_model.specs.declared.step.Reply.TheVariants as reply
use Rattle.flume_core.specs.declared.error.RecvError.{RecvError}
use Rattle.flume_core.specs.declared.error.RecvError.TheVariants as recv_error
use Rattle.flume_core.specs.declared.error.TryRecvError.{TryRecvError}
use Rattle.flume_core.specs.declared.error.TryRecvError.TheVariants as try_recv
use Rattle.flume_core.specs.declared.error.RecvTimeoutError.{RecvTimeoutError}
use Rattle.flume_core.specs.declared.error.RecvTimeoutError.TheVariants as timeout
use Rattle.flume_core.specs.declared.error.NoMemory.{NoMemory}
use Rattle.flume_calls.specs.ReceiveTurns.{after_try_recv}
use Rattle.flume_keeper.specs.declared.no_trace.NoParty.{NoParty}
use Rattle.flume.specs.CallSteps.{receive_as_timed, try_receive_as_turn}
use Rattle.flume.specs.GateSteps.{Receives}
use Rattle.flume.specs.LockedTurns.{HasMade}

-- what a contract sees of a party's iterator over received messages, whose calls no run uses up
pub record IterValue (P : Type 0) : Type 0 where
  pub channel : ℕ
  pub fault : Bool
  pub calls_left : ℕ
  pub party : P

-- the party's iterator over a channel's messages as it begins
abbrev pub new_iter_by : {P : Type 0} → P → ℕ → IterValue P
new_iter_by party channel =
    record { channel = channel; fault = false; calls_left = 2 ^ 64 - 1; party = party }

-- the same of a channel without a trace
abbrev pub new_iter : ℕ → IterValue NoParty
new_iter = new_iter_by (record {})

module _ {T : Type 0} where
  -- whether a receive was refused because memory ran out
  abbrev pub is_refused : Result T RecvError → Bool
  is_refused (Err recv_error.NoMemory) = true
  is_refused _ = false

module _ {T : Type 0} (A : Type 0) where
  -- a `recv` was made, whose answer has this item and tells whether there is a fault
  pub record HasReceived (item : Option T) (fault : Bool) : Type 0 where
    pub answer : Result T RecvError
    pub made : Receives A Never (receive_as_timed answer)
    pub item_is : item ≡ result_ok answer
    pub fault_is : fault ≡ is_refused answer

  -- a `try_recv` was made, whose answer has this item
  pub record HasTried (item : Option T) : Type 0 where
    pub answer : Result T TryRecvError
    pub made : HasMade {A = A} TryRecv after_try_recv (try_receive_as_turn answer)
    pub had_memory : answer ≢ Err try_recv.NoMemory
    pub item_is : item ≡ result_ok answer

  -- one `next` of an iterator that waits
  pub record IsNext {P : Type 0} (old : IterValue P) (item : Option T) (new : IterValue P)
      : Type 0 where
    pub channel : new.channel ≡ old.channel
    pub calls_left : old.calls_left ≡ new.calls_left + 1
    pub fault : new.fault ≡ true → item ≡ None
    pub received : HasReceived item new.fault

  -- one `next` of an iterator that doesn't wait: a `try_recv`
  pub record IsTryNext {P : Type 0} (old : IterValue P) (item : Option T) (new : IterValue P)
      : Type 0 where
    pub channel : new.channel ≡ old.channel
    pub calls_left : old.calls_left ≡ new.calls_left + 1
    pub no_fault : new.fault ≡ false
    pub tried : HasTried item

-- what a contract sees of a party's iterator that ends at a deadline
pub record DeadlineIterValue (P : Type 0) : Type 0 where
  pub channel : ℕ
  pub deadline : Deadline
  pub end : Option RecvTimeoutError
  pub calls_left : ℕ
  pub party : P

-- the party's iterator over a channel's messages up to a deadline as it begins
abbrev pub new_deadline_iter_by : {P : Type 0} → P → ℕ → Deadline → DeadlineIterValue P
new_deadline_iter_by party channel deadline = record {
  channel = channel;
  deadline = deadline;
  end = None;
  calls_left = 2 ^ 64 - 1;
  party = party;
}

-- the same of a channel without a trace
abbrev pub new_deadline_iter : ℕ → Deadline → DeadlineIterValue NoParty
new_deadline_iter = new_deadline_iter_by (record {})

-- one `next` of it
pub record IsNextInTime {T P : Type 0} (A : Type 0) (old : DeadlineIterValue P) (item : Option T)
    (new : DeadlineIterValue P) : Type 0 where
  pub channel : new.channel ≡ old.channel
  pub deadline : new.deadline ≡ old.deadline
  pub calls_left : old.calls_left ≡ new.calls_left + 1
  pub end : IsSome new.end ↔ IsNone item
  pub has_deadline : new.end ≡ Some timeout.Timeout → old.deadline ≢ Never
  pub ahead : new.end ≢ Some timeout.Timeout → CanBeAhead old.deadline
  pub made : new.end ≢ Some timeout.Timeout → (answer : Result T RecvTimeoutError)
      × Receives A old.deadline answer × (item ≡ result_ok answer) × (new.end ≡ result_err answer)

module _ {T A : Type 0} where
  -- the answer of a drain to its step's reply
  abbrev pub after_drain : Reply T A → Result (List T) NoMemory → Type 0
  after_drain (Drained list) answer = answer ≡ Ok list.items
  after_drain (reply.NoMemory back) answer = answer ≡ Err (record {})
  after_drain _ answer = ⊥
