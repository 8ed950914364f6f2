-- The stage of a call that corresponds to what a turn led to.
use Rattle.std.specs.Prelude.{Bool, true, false, Ok, Err}
use Rattle.flume.specs.declared.error.RecvTimeoutError.TheVariants as receive
use Rattle.flume.specs.declared.error.SendTimeoutError.TheVariants as send
use Rattle.flume_calls.specs.declared.calls.send.SendNext.{SendNext}
use Rattle.flume_calls.specs.declared.calls.send.SendNext.TheVariants as sending
use Rattle.flume_calls.specs.declared.calls.receive.RecvNext.{RecvNext}
use Rattle.flume_calls.specs.declared.calls.receive.RecvNext.TheVariants as receiving
use Rattle.judge_calls.specs.declared.call.Call.{Call}
use Rattle.judge_calls.specs.declared.call.Call.TheVariants.{Recv, RecvTimeout}
use Rattle.judge_calls.specs.declared.call.Answer.TheVariants.{Sent, Got, Disconnected}
use Rattle.judge_calls.specs.declared.call.Answer.TheVariants.{Timeout, NoMemory}
use Rattle.judge_calls.specs.declared.stage.Stage.{Stage}
use Rattle.judge_calls.specs.declared.stage.Stage.TheVariants.{Tried, Parked, Refused}
use Rattle.judge_calls.specs.declared.stage.Stage.TheVariants.{Answered}

module _ {T A : Type 0} where
  -- the stage of a send
  abbrev pub stage_of_send : SendNext T → Stage T A
  stage_of_send (sending.Done (Ok sent)) = Answered Sent
  stage_of_send (sending.Done (Err (send.Timeout back))) = Answered Timeout
  stage_of_send (sending.Done (Err (send.Disconnected back))) = Answered Disconnected
  stage_of_send (sending.Done (Err (send.NoMemory back))) = Answered NoMemory
  stage_of_send (sending.NeedSignal back) = Tried
  stage_of_send (sending.Park ticket) = Parked ticket

  -- the stage of a receive
  abbrev pub stage_of_receive : RecvNext T → Stage T A
  stage_of_receive (receiving.Done (Ok message)) = Answered (Got message)
  stage_of_receive (receiving.Done (Err receive.Timeout)) = Answered Timeout
  stage_of_receive (receiving.Done (Err receive.Disconnected)) = Answered Disconnected
  stage_of_receive (receiving.Done (Err receive.NoMemory)) = Answered NoMemory
  stage_of_receive receiving.NeedSignal = Tried
  stage_of_receive (receiving.Park ticket) = Parked ticket
  stage_of_receive (receiving.Refused ticket) = Refused ticket

module _ {T : Type 0} where
  -- a send without a deadline takes its message back only since an allocation failed
  abbrev pub untimed : SendNext T → SendNext T
  untimed (sending.Done (Err (send.Timeout back))) = sending.Done (Err (send.NoMemory back))
  untimed next = next

  -- a receive that is polled stays parked if it is refused memory
  abbrev pub unrefused : RecvNext T → RecvNext T
  unrefused (receiving.Refused ticket) = receiving.Park ticket
  unrefused next = next

  -- whether it is a receive that blocks
  abbrev pub blocks_to_receive : Call T → Bool
  blocks_to_receive Recv = true
  blocks_to_receive RecvTimeout = true
  blocks_to_receive _ = false
