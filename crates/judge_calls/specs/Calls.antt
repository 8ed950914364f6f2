-- Which steps a call makes, and its stage after each reply.
use Rattle.std.specs.Prelude.{Bool, true, false, if◌then◌else◌, Option, Some, None}
use Rattle.flume_model.specs.declared.step.Kind.TheVariants.{Block, Plain}
use Rattle.flume_model.specs.declared.step.Step.{Step}
use Rattle.flume_model.specs.declared.step.Step.TheVariants as step
use Rattle.flume_model.specs.declared.step.Reply.{Reply}
use Rattle.flume_model.specs.declared.step.Reply.TheVariants as reply
use Rattle.judge_calls.specs.declared.call.Call.{Call}
use Rattle.judge_calls.specs.declared.call.Call.TheVariants as call
use Rattle.judge_calls.specs.declared.call.Answer.TheVariants as answer
use Rattle.judge_calls.specs.declared.stage.Stage.{Stage}
use Rattle.judge_calls.specs.declared.stage.Stage.TheVariants.{Begun, Tried, Parked, Refused}
use Rattle.judge_calls.specs.declared.stage.Stage.TheVariants.{Answered}

module _ {T : Type 0} where
  -- the message that a call sends
  abbrev pub message_of : Call T → Option T
  message_of (call.Send m) = Some m
  message_of (call.SendTimeout m) = Some m
  message_of (call.SendAsync m) = Some m
  message_of (call.TrySend m) = Some m
  message_of _ = None

  -- the first step of a call, and its only one if it doesn't wait
  abbrev pub first_step : Call T → Step T
  first_step (call.Send m) = step.TrySend m
  first_step (call.SendTimeout m) = step.TrySend m
  first_step (call.SendAsync m) = step.Send m
  first_step (call.TrySend m) = step.TrySend m
  first_step call.Recv = step.TryRecv
  first_step call.RecvTimeout = step.TryRecv
  first_step call.RecvAsync = step.Recv Plain
  first_step call.TryRecv = step.TryRecv
  first_step call.Drain = step.Drain
  first_step call.CloneSender = step.CloneSender
  first_step call.CloneReceiver = step.CloneReceiver
  first_step call.DropSender = step.DropSender
  first_step call.DropReceiver = step.DropReceiver
  first_step (call.SetCapacity n) = step.SetCapacity n
  first_step call.Len = step.Len
  first_step call.IsEmpty = step.IsEmpty
  first_step call.IsFull = step.IsFull
  first_step call.Capacity = step.Capacity
  first_step call.SenderCount = step.SenderCount
  first_step call.ReceiverCount = step.ReceiverCount
  first_step call.IsDisconnected = step.IsDisconnected

  -- the step by which a call parks that has tried
  abbrev pub parking_step : Call T → Option (Step T)
  parking_step (call.Send m) = Some (step.Send m)
  parking_step (call.SendTimeout m) = Some (step.Send m)
  parking_step call.Recv = Some (step.Recv Block)
  parking_step call.RecvTimeout = Some (step.Recv Block)
  parking_step call.RecvAsync = Some (step.Recv Plain)
  parking_step _ = None

  -- whether it is a send that waits
  abbrev pub is_send : Call T → Bool
  is_send (call.Send m) = true
  is_send (call.SendTimeout m) = true
  is_send (call.SendAsync m) = true
  is_send _ = false

module _ {T A : Type 0} where
  -- the step that a call makes next, if it makes one
  abbrev pub next_step : Call T → Stage T A → Option (Step T)
  next_step call Begun = Some (first_step call)
  next_step call Tried = parking_step call
  next_step call (Parked t) = Some (if is_send call then step.PollSend t else step.Poll t)
  next_step call (Refused t) = Some (step.Withdraw t)
  next_step call (Answered own) = None

  -- the step that it may make instead: at its deadline, as it is dropped, or without a waker
  abbrev pub alternative_step : Call T → Stage T A → Option (Step T)
  alternative_step (call.SendAsync m) Begun = Some (step.TrySend m)
  alternative_step call.RecvAsync Begun = Some step.TryRecv
  alternative_step call.RecvAsync Tried = Some step.TryRecv
  alternative_step (call.SendTimeout m) (Parked t) = Some (step.WithdrawSend t)
  alternative_step (call.SendAsync m) (Parked t) = Some (step.WithdrawSend t)
  alternative_step call.RecvTimeout (Parked t) = Some (step.Withdraw t)
  alternative_step call.RecvAsync (Parked t) = Some (step.Withdraw t)
  alternative_step _ _ = None

  -- the stage after a reply; after one that its step can't have, which no run has, it is arbitrary
  abbrev pub stage_after : Call T → Stage T A → Reply T A → Stage T A
  stage_after call stage (reply.Sent filled) = Answered answer.Sent
  stage_after (call.TrySend m) stage (reply.Full back) = Answered answer.Full
  stage_after call stage (reply.Full back) = Tried
  stage_after call stage (reply.Closed back) = Answered answer.Disconnected
  stage_after call.RecvAsync (Parked t) (reply.NoMemory back) = Parked t
  stage_after call (Parked t) (reply.NoMemory back) = Refused t
  stage_after call stage (reply.NoMemory back) = Answered answer.NoMemory
  stage_after call stage (reply.Spent back) = Answered answer.NoMemory
  stage_after call stage (reply.Pending t) = Parked t
  stage_after call stage reply.Accepted = Answered answer.Sent
  stage_after call stage reply.Waiting = stage
  stage_after call stage (reply.Returned back true) = Answered answer.Disconnected
  stage_after (call.SendTimeout m) stage (reply.Returned back false) = Answered answer.Timeout
  stage_after call stage (reply.Returned back false) = Answered answer.NoMemory
  stage_after call (Refused t) reply.NoTicket = Answered answer.NoMemory
  stage_after call stage reply.NoTicket =
      Answered (if is_send call then answer.Sent else answer.Disconnected)
  stage_after call stage (reply.Got m) = Answered (answer.Got m)
  stage_after call.TryRecv stage reply.Empty = Answered answer.Empty
  stage_after call stage reply.Empty = Tried
  stage_after call stage reply.Ended = Answered answer.Disconnected
  stage_after call stage (reply.Parked t) = Parked t
  stage_after call.RecvTimeout (Parked t) (reply.Gone true filled) = Answered answer.Disconnected
  stage_after call.RecvTimeout (Parked t) (reply.Gone false filled) = Answered answer.Timeout
  stage_after call stage (reply.Gone closed filled) = Answered answer.NoMemory
  stage_after call stage (reply.Drained list) = Answered (answer.Drained list.items)
  stage_after call stage reply.Done = Answered answer.Done
  stage_after call stage reply.NoEnd = Answered answer.NoEnd
  stage_after call stage reply.CountFull = Answered answer.CountFull
  stage_after call stage (reply.Number n) = Answered (answer.Number n)
  stage_after call stage (reply.Flag b) = Answered (answer.Flag b)
  stage_after call stage (reply.Capacity c) = Answered (answer.Capacity c)
  stage_after call stage reply.Unbounded = Answered answer.Unbounded
