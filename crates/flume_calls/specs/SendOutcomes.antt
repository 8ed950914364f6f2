-- What each turn of a send says of the state before it and the state after it, by its answer.
use Rattle.std.specs.Prelude.{◌≡◌, ◌≢◌, ℕ, ◌+◌, ◌<◌, ◌↔◌, Bool, true, false, Option, Some, None, Ok}
use Rattle.std.specs.Prelude.{Err, ◌++◌, ◌∷◌, [], length}
use Rattle.std.specs.FinMap.{get, insert, remove}
use Rattle.flume_model.specs.Limits.{IsOpen, IsClosed, IsAtCapacity}
use Rattle.flume_model.specs.Entries.{some_wait}
use Rattle.flume_state.specs.Notices.{with_signal}
use Rattle.flume_state.specs.Sends.{newly_blocked, with_send_notice}
use Rattle.flume_state.specs.State.{State, accepted_at, message_count}
use Rattle.flume_state.specs.Effects.{Joins, Returns}
use Rattle.flume_core.specs.Represents.{IsReachable}
use Rattle.flume_core.specs.Waiting.{FindsNoRoom}
use Rattle.flume_core.specs.declared.error.SendTimeoutError.TheVariants.{Timeout, Disconnected}
use Rattle.flume_core.specs.declared.error.SendTimeoutError.TheVariants.{NoMemory}
use Rattle.flume_calls.specs.declared.calls.send.SendNext.{SendNext}
use Rattle.flume_calls.specs.declared.calls.send.SendNext.TheVariants.{Done, NeedSignal, Park}
use Rattle.flume_calls.specs.SendTurns.{HandsBack}

module _ {T S : Type 0} where
  -- the first turn
  pub record FirstSendOutcome (message : T) (old new : State T S) (next : SendNext T)
      : Type 0 where
    pub closed : (next ≡ Done (Err (Disconnected message))) ↔ IsClosed old.senders old.receivers
    pub need_signal : (next ≡ NeedSignal message) ↔ IsOpen old.senders old.receivers
        × (some_wait old.entries ≡ false) × IsAtCapacity old.capacity (length old.queue)
    pub sent : next ≡ Done (Ok tt) → (filled : Option ℕ) × Joins old new message filled
    pub succeeds : message_count old < old.space → next ≢ Done (Err (NoMemory message))
    pub unchanged : HandsBack next → new ≡ old

  -- the turn that may park, with its signal
  pub record ParkSendOutcome (A : Type 0) (message : T) (signal : S) (old new : State T S)
      (next : SendNext T) : Type 0 where
    pub closed : (next ≡ Done (Err (Disconnected message))) ↔ IsClosed old.senders old.receivers
    pub sent : next ≡ Done (Ok tt) → (filled : Option ℕ) × Joins old new message filled
    pub waits : (ticket : ℕ) → next ≡ Park ticket → FindsNoRoom old
    pub refused : next ≡ Done (Err (NoMemory message)) → message_count old < old.space
        → FindsNoRoom old
    pub parked : next ≡ Park old.next_ticket → new ≡ record old {
      blocked = old.blocked ++ record { ticket = old.next_ticket; message = message } ∷ [];
      space = new.space;
      sends = insert old.sends old.next_ticket (newly_blocked signal);
      next_ticket = old.next_ticket + 1;
    }
    pub ticket : IsReachable A old → (ticket : ℕ) → next ≡ Park ticket → ticket ≡ old.next_ticket
    pub unchanged : HandsBack next → new ≡ old

  -- a turn of the send parked under this ticket; the signal replaces the one that it left
  pub record AgainSendOutcome (A : Type 0) (call : ℕ) (last : Bool) (signal : Option S)
      (old new : State T S) (next : SendNext T) : Type 0 where
    pub waits : (next ≡ Park call) ↔ (last ≡ false)
        × (accepted_at old call ≡ Some false) × IsOpen old.senders old.receivers
    pub replaced : next ≡ Park call
        → new ≡ record old { sends = with_send_notice (with_signal signal) call old.sends }
    pub accepted : accepted_at old call ≡ Some true → (next ≡ Done (Ok tt))
        × (new ≡ record old { sends = remove old.sends call })
    pub no_ticket : get old.sends call ≡ None → (next ≡ Done (Ok tt)) × (new ≡ old)
    pub taken_in : IsReachable A old → next ≡ Done (Ok tt) → accepted_at old call ≢ Some false
    pub timeout : (back : T) → next ≡ Done (Err (Timeout back))
        → (last ≡ true) × Returns old new call back false
    pub disconnected : (back : T) → next ≡ Done (Err (Disconnected back))
        → (closed : Bool) × Returns old new call back closed × (IsReachable A old → closed ≡ true)
