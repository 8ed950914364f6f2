-- What a party did in the very channel of its end, by what a keeper says of it.
use Rattle.std.specs.Prelude.{◌≡◌, ℕ, Bool, List, Result}
use Rattle.flume_model.specs.declared.step.Kind.TheVariants.{Block}
use Rattle.flume_model.specs.declared.step.Step.{Step}
use Rattle.flume_model.specs.declared.step.Step.TheVariants.{TrySend, Send, TryRecv, Recv}
use Rattle.flume_model.specs.declared.step.Reply.{Reply}
use Rattle.flume_core.specs.declared.error.SendTimeoutError.{SendTimeoutError}
use Rattle.flume_core.specs.declared.error.RecvTimeoutError.{RecvTimeoutError}
use Rattle.flume_calls.specs.declared.calls.send.SendNext.{SendNext}
use Rattle.flume_calls.specs.declared.calls.receive.RecvNext.{RecvNext}
use Rattle.flume_calls.specs.Batches.{IsOneStep}
use Rattle.flume_calls.specs.SendTurns as send
use Rattle.flume_calls.specs.SendGates.{WholeSend}
use Rattle.flume_calls.specs.ReceiveTurns as receive
use Rattle.flume_calls.specs.ReceiveGates.{WholeReceive}
use Rattle.flume_actions.specs.Actions.{Action}
use Rattle.flume_keeper.specs.Keeps.{Did}
use Rattle.flume.specs.GateSteps.{Found}

-- `did` is what the keeper says: that a party made these steps, with these replies
module _ {P T A : Type 0} (did : P → List (Action T A) → P → Type 0) where
  -- the party made this step, and the table has the answer to its reply
  abbrev pub DidStep : {N : Type 0} → Step T → (Reply T A → N → Type 0) → P → N → P → Type 0
  DidStep step table old answer new = Did did (IsOneStep step table) old answer new

  -- the party is as it was
  abbrev pub Same : P → P → Bool → Type 0
  Same old new happened = new ≡ old

  -- a send's first turn
  abbrev pub FirstSendOf : P → T → P → SendNext T → Type 0
  FirstSendOf old message new next = DidStep (TrySend message) send.after_try_send old next new

  -- the turn that may park it
  abbrev pub ParkSendOf : P → T → P → SendNext T → Type 0
  ParkSendOf old message new next = DidStep (Send message) send.after_send old next new

  -- a turn of the parked send
  pub record AgainSendOf (old : P) (ticket : ℕ) (last : Bool) (new : P) (next : SendNext T)
      : Type 0 where
    pub answers : send.IsParkedAnswer ticket last next
    pub turn : DidStep (send.step_of_parked_send ticket last) (send.after_parked_send ticket last)
        old next new

  -- a whole send of the party
  abbrev pub SendsOf : P → T → P → Result (Unit {0}) (SendTimeoutError T) → Type 0
  SendsOf old message new result =
      WholeSend FirstSendOf Same ParkSendOf AgainSendOf Same old message new result

  -- a send of the party, after a first turn that found the channel full
  abbrev pub SendsToFullOf : P → T → P → Result (Unit {0}) (SendTimeoutError T) → Type 0
  SendsToFullOf old message new result =
      WholeSend Found Same ParkSendOf AgainSendOf Same old message new result

  -- a receive's first turn
  abbrev pub FirstReceiveOf : P → P → RecvNext T → Type 0
  FirstReceiveOf old new next = DidStep TryRecv receive.after_try_recv old next new

  -- the turn that may park it
  abbrev pub ParkReceiveOf : P → P → RecvNext T → Type 0
  ParkReceiveOf old new next = DidStep (Recv Block) receive.after_recv old next new

  -- a turn of the parked receive
  pub record AgainReceiveOf (old : P) (ticket : ℕ) (last : Bool) (new : P) (next : RecvNext T)
      : Type 0 where
    pub answers : receive.IsParkedAnswer ticket last next
    pub turn : DidStep (receive.step_of_parked_receive ticket last)
        (receive.after_parked_receive ticket last) old next new

  -- a whole receive of the party
  abbrev pub ReceivesOf : P → P → Result T RecvTimeoutError → Type 0
  ReceivesOf old new result =
      WholeReceive FirstReceiveOf Same ParkReceiveOf AgainReceiveOf Same old new result
