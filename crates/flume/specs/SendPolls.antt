-- Polls of a send, as their callers see them.
use Rattle.std.specs.Prelude.{◌≡◌, ◌≢◌, ℕ, Option, Result, Ok, Err}
use Rattle.futures.specs.declared.task.Poll.{Poll}
use Rattle.futures.specs.declared.task.Poll.TheVariants.{Ready}
use Rattle.futures.specs.Poll.{IfReady, OnPending}
use Rattle.flume_core.specs.declared.error.SendError.{SendError}
use Rattle.flume_core.specs.declared.error.SendError.TheVariants.{Disconnected, NoMemory}
use Rattle.flume_calls.specs.declared.polled.send.PolledSend.{PolledSend}
use Rattle.flume_calls.specs.declared.polled.send.PolledSend.TheVariants.{Unsent, Parked, Finished}
use Rattle.flume_calls.specs.PolledSends.{SendPoll}
use Rattle.flume.specs.declared.signal.Signal.{Signal}
use Rattle.flume.specs.LockedPolls.{HasPolled, answer_of}

module _ {T : Type 0} (A : Type 0) where
  -- one poll of a send was made
  abbrev pub HasPolledSend : PolledSend T → PolledSend T
      → Option (Result (Unit {0}) (SendError T)) → Type 0
  HasPolledSend = HasPolled A (SendPoll {S = Signal A} A)

  -- a poll of a future or a sink that has this send
  pub record IsPollOfSend (old new : PolledSend T) (result : Poll (Result (Unit {0}) (SendError T)))
      : Type 0 where
    pub ready_if_finished : old ≡ Finished → result ≡ Ready (Ok tt)
    pub polled : old ≢ Finished → HasPolledSend old new (answer_of result)
    pub finished : IfReady result (λ _. new ≡ Finished)
    pub parked : OnPending result ((ticket : ℕ) × (new ≡ Parked ticket))
    pub stays : (ticket : ℕ) → old ≡ Parked ticket → OnPending result (new ≡ Parked ticket)
    pub disconnected : (message back : T) → old ≡ Unsent message
        → result ≡ Ready (Err (Disconnected back)) → back ≡ message
    pub no_memory : (message back : T) → old ≡ Unsent message
        → result ≡ Ready (Err (NoMemory back)) → back ≡ message
