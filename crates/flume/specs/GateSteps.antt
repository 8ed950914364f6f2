-- The gates of the ends, turn by turn, and the calls that go through them.
use Rattle.std.specs.Prelude.{◌≡◌, ◌≢◌, ℕ, Bool, true, false, Result}
use Rattle.flume_model.specs.declared.step.Kind.TheVariants.{Block}
use Rattle.flume_model.specs.declared.step.Step.TheVariants.{TrySend, Send, TryRecv, Recv}
use Rattle.flume_core.specs.declared.error.SendTimeoutError.{SendTimeoutError}
use Rattle.flume_core.specs.declared.error.RecvTimeoutError.{RecvTimeoutError}
use Rattle.flume_calls.specs.declared.calls.send.SendNext.{SendNext}
use Rattle.flume_calls.specs.declared.calls.send.SendNext.TheVariants.{NeedSignal}
use Rattle.flume_calls.specs.declared.calls.receive.RecvNext.{RecvNext}
use Rattle.flume_calls.specs.SendTurns as send
use Rattle.flume_calls.specs.SendGates.{WholeSend}
use Rattle.flume_calls.specs.ReceiveTurns as receive
use Rattle.flume_calls.specs.ReceiveGates.{WholeReceive}
use Rattle.flume_deadline.specs.declared.Deadline.{Deadline}
use Rattle.flume_deadline.specs.declared.Deadline.TheVariants.{Never}
use Rattle.flume_deadline.specs.Deadlines.{CanBeAhead}
use Rattle.flume.specs.LockedTurns.{HasMade}

-- the first turn was made before, and found the channel full
abbrev pub Found : {G T : Type 0} → G → T → G → SendNext T → Type 0
Found old message new next = (new ≡ old) × (next ≡ NeedSignal message)

-- the waiter was made, or couldn't be
abbrev pub MakesWaiter : Deadline → Deadline → Bool → Type 0
MakesWaiter old new made = new ≡ old

-- a wait, by whether the deadline is reached
pub record WaitsUpTo (old new : Deadline) (expired : Bool) : Type 0 where
  pub same : new ≡ old
  pub reached : expired ≡ true → old ≢ Never
  pub ahead : expired ≡ false → CanBeAhead old

module _ {T : Type 0} (A : Type 0) where
  -- a send's first turn makes a `try_send`
  pub record SendFirst (old : Deadline) (message : T) (new : Deadline) (next : SendNext T)
      : Type 0 where
    pub same : new ≡ old
    pub answers : send.IsFirstAnswer message next
    pub made : HasMade {A = A} (TrySend message) send.after_try_send next

  -- the turn that may park it makes a `send`
  pub record SendPark (old : Deadline) (message : T) (new : Deadline) (next : SendNext T)
      : Type 0 where
    pub same : new ≡ old
    pub answers : send.IsParkingAnswer message next
    pub made : HasMade {A = A} (Send message) send.after_send next

  -- a turn of the parked send makes a `poll_send`, and at its deadline a `withdraw_send`
  pub record SendAgain (old : Deadline) (ticket : ℕ) (last : Bool) (new : Deadline)
      (next : SendNext T) : Type 0 where
    pub same : new ≡ old
    pub answers : send.IsParkedAnswer ticket last next
    pub made : HasMade {A = A} (send.step_of_parked_send ticket last)
        (send.after_parked_send ticket last) next

  -- a send of this message up to this deadline, with this result
  abbrev pub Sends : Deadline → T → Result (Unit {0}) (SendTimeoutError T) → Type 0
  Sends deadline message result = (end : Deadline)
      × WholeSend SendFirst MakesWaiter SendPark SendAgain WaitsUpTo deadline message end result

  -- a receive's first turn makes a `try_recv`
  pub record ReceiveFirst (old new : Deadline) (next : RecvNext T) : Type 0 where
    pub same : new ≡ old
    pub answers : receive.IsFirstAnswer next
    pub not_refused : receive.HadMemory next
    pub made : HasMade {A = A} TryRecv receive.after_try_recv next

  -- the turn that may park it makes a `recv` of the kind that blocks
  pub record ReceivePark (old new : Deadline) (next : RecvNext T) : Type 0 where
    pub same : new ≡ old
    pub answers : receive.IsParkingAnswer next
    pub made : HasMade {A = A} (Recv Block) receive.after_recv next

  -- a turn of the parked receive makes a `poll`, and at its deadline a `withdraw`
  pub record ReceiveAgain (old : Deadline) (ticket : ℕ) (last : Bool) (new : Deadline)
      (next : RecvNext T) : Type 0 where
    pub same : new ≡ old
    pub answers : receive.IsParkedAnswer ticket last next
    pub not_refused : receive.HadMemory next
    pub made : HasMade {A = A} (receive.step_of_parked_receive ticket last)
        (receive.after_parked_receive ticket last) next

  -- a receive up to this deadline, with this result
  abbrev pub Receives : Deadline → Result T RecvTimeoutError → Type 0
  Receives deadline result = (end : Deadline)
      × WholeReceive ReceiveFirst MakesWaiter ReceivePark ReceiveAgain WaitsUpTo deadline end result
