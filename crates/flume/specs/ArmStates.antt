-- How the arms of a selector complete, and their states after a step.
use Rattle.std.specs.Prelude.{◌≡◌, Option, Some, None, Result, Ok, Err}
use Rattle.flume_core.specs.declared.error.SendError.{SendError}
use Rattle.flume_core.specs.declared.error.SendError.TheVariants as send
use Rattle.flume_core.specs.declared.error.RecvError.{RecvError}
use Rattle.flume_core.specs.declared.error.RecvError.TheVariants as receive
use Rattle.flume_core.specs.declared.error.SendTimeoutError.{SendTimeoutError}
use Rattle.flume_core.specs.declared.error.RecvTimeoutError.{RecvTimeoutError}
use Rattle.flume_calls.specs.declared.calls.send.SendNext.{SendNext}
use Rattle.flume_calls.specs.declared.calls.receive.RecvNext.{RecvNext}
use Rattle.flume_calls.specs.declared.gates.select.ArmNext.{ArmNext}
use Rattle.flume_calls.specs.declared.gates.select.ArmNext.TheVariants as next
use Rattle.flume.specs.declared.select.send.SendState.{SendState}
use Rattle.flume.specs.declared.select.send.SendState.TheVariants as sending
use Rattle.flume.specs.declared.select.receive.ReceiveState.{ReceiveState}
use Rattle.flume.specs.declared.select.receive.ReceiveState.TheVariants as receiving

module _ {T : Type 0} where
  -- how a send arm completes
  abbrev pub CompletesSend : Result (Unit {0}) (SendError T) → Type 0
  CompletesSend (Ok sent) = Unit {0}
  CompletesSend (Err (send.Disconnected back)) = Unit {0}
  CompletesSend (Err (send.NoMemory back)) = ⊥

  -- how a receive arm completes
  abbrev pub CompletesReceive : Result T RecvError → Type 0
  CompletesReceive (Ok message) = Unit {0}
  CompletesReceive (Err receive.Disconnected) = Unit {0}
  CompletesReceive (Err receive.NoMemory) = ⊥

  -- the result that a send arm has completed with
  abbrev pub send_result : SendState T → Option (Result (Unit {0}) (SendError T))
  send_result (sending.Completed (Ok sent)) = Some (Ok tt)
  send_result (sending.Completed (Err back)) = Some (Err (send.Disconnected back))
  send_result _ = None

  -- the result that a receive arm has completed with
  abbrev pub receive_result : ReceiveState T → Option (Result T RecvError)
  receive_result (receiving.Completed (Some message)) = Some (Ok message)
  receive_result (receiving.Completed None) = Some (Err receive.Disconnected)
  receive_result _ = None

  -- a turn of a send arm doesn't time out
  abbrev pub IsArmSend : SendNext T → Type 0
  IsArmSend (SendNext.Done (Err (SendTimeoutError.Timeout back))) = ⊥
  IsArmSend _ = Unit {0}

  -- a turn of a receive arm doesn't time out, nor run out of memory once it is parked
  abbrev pub IsArmReceive : RecvNext T → Type 0
  IsArmReceive (RecvNext.Done (Err RecvTimeoutError.Timeout)) = ⊥
  IsArmReceive (RecvNext.Refused ticket) = ⊥
  IsArmReceive _ = Unit {0}

  -- what a turn leads a send arm to, and its state after
  abbrev pub IsAfterSend : SendNext T → ArmNext → SendState T → Type 0
  IsAfterSend (SendNext.Park ticket) next.Waits new = new ≡ sending.Parked ticket
  IsAfterSend (SendNext.NeedSignal back) next.Waits new = new ≡ sending.Unstarted back
  IsAfterSend (SendNext.Done (Ok sent)) next.Completed new = new ≡ sending.Completed (Ok tt)
  IsAfterSend (SendNext.Done (Err (SendTimeoutError.Disconnected back))) next.Completed new =
      new ≡ sending.Completed (Err back)
  IsAfterSend (SendNext.Done (Err (SendTimeoutError.NoMemory back))) next.NoMemory new =
      new ≡ sending.Finished
  IsAfterSend _ _ _ = ⊥

  -- what a turn leads a receive arm to, and its state after
  abbrev pub IsAfterReceive : RecvNext T → ArmNext → ReceiveState T → Type 0
  IsAfterReceive (RecvNext.Park ticket) next.Waits new = new ≡ receiving.Parked ticket
  IsAfterReceive RecvNext.NeedSignal next.Waits new = new ≡ receiving.Unstarted
  IsAfterReceive (RecvNext.Done (Ok message)) next.Completed new =
      new ≡ receiving.Completed (Some message)
  IsAfterReceive (RecvNext.Done (Err RecvTimeoutError.Disconnected)) next.Completed new =
      new ≡ receiving.Completed None
  IsAfterReceive (RecvNext.Done (Err RecvTimeoutError.NoMemory)) next.NoMemory new =
      new ≡ receiving.Finished
  IsAfterReceive _ _ _ = ⊥
