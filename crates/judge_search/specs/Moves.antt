-- What an open call may do next.
use Rattle.std.specs.Prelude.{◌≡◌, ℕ, Bool, true, false, if◌then◌else◌, List, Option, Some, None}
use Rattle.std.specs.Option.{option_map}
use Rattle.flume_model.specs.declared.step.Kind.TheVariants.{Block, Plain}
use Rattle.flume_model.specs.declared.step.Step.{Step}
use Rattle.flume_model.specs.declared.step.Step.TheVariants as step
use Rattle.flume_model.specs.declared.step.Reply.{Reply}
use Rattle.flume_model.specs.declared.step.Reply.TheVariants.{NoMemory, Spent}
use Rattle.judge_calls.specs.declared.call.Call.{Call}
use Rattle.judge_calls.specs.declared.call.Call.TheVariants as call
use Rattle.judge_calls.specs.declared.event.Item.{Item}
use Rattle.judge_calls.specs.declared.event.Item.TheVariants.{Happens, Makes}
use Rattle.judge_calls.specs.declared.stage.Stage.{Stage}
use Rattle.judge_calls.specs.Calls.{next_step, alternative_step, is_send, message_of}
use Rattle.judge_calls.specs.Explanations.{open_call}
use Rattle.judge_search.specs.declared.configuration.Progress.{Progress}
use Rattle.judge_search.specs.declared.configuration.Progress.TheVariants as progress
use Rattle.judge_search.specs.declared.step_of.Move.{Move}
use Rattle.judge_search.specs.declared.step_of.Move.TheVariants as move

module _ {T : Type 0} where
  -- the first move of a call, and its only one if it doesn't wait
  abbrev pub first_move : Call T → Move
  first_move (call.Send m) = move.TrySend
  first_move (call.SendTimeout m) = move.TrySend
  first_move (call.SendAsync m) = move.Send
  first_move (call.TrySend m) = move.TrySend
  first_move call.Recv = move.TryRecv
  first_move call.RecvTimeout = move.TryRecv
  first_move call.RecvAsync = move.Recv Plain
  first_move call.TryRecv = move.TryRecv
  first_move call.Drain = move.Drain
  first_move call.CloneSender = move.CloneSender
  first_move call.CloneReceiver = move.CloneReceiver
  first_move call.DropSender = move.DropSender
  first_move call.DropReceiver = move.DropReceiver
  first_move (call.SetCapacity n) = move.SetCapacity n
  first_move call.Len = move.Len
  first_move call.IsEmpty = move.IsEmpty
  first_move call.IsFull = move.IsFull
  first_move call.Capacity = move.Capacity
  first_move call.SenderCount = move.SenderCount
  first_move call.ReceiverCount = move.ReceiverCount
  first_move call.IsDisconnected = move.IsDisconnected

  -- the move by which a call parks that has tried
  abbrev pub parking_move : Call T → Option Move
  parking_move (call.Send m) = Some move.Send
  parking_move (call.SendTimeout m) = Some move.Send
  parking_move call.Recv = Some (move.Recv Block)
  parking_move call.RecvTimeout = Some (move.Recv Block)
  parking_move call.RecvAsync = Some (move.Recv Plain)
  parking_move _ = None

  -- the next move of a call with this progress
  abbrev pub next_move : Call T → Progress → Option Move
  next_move call progress.Begun = Some (first_move call)
  next_move call progress.Tried = parking_move call
  next_move call progress.Parked = Some (if is_send call then move.PollSend else move.Poll)
  next_move call progress.Refused = Some move.Withdraw
  next_move call progress.Done = None

  -- the other move that a call may make instead
  abbrev pub alternative_move : Call T → Progress → Option Move
  alternative_move (call.SendAsync m) progress.Begun = Some move.TrySend
  alternative_move call.RecvAsync progress.Begun = Some move.TryRecv
  alternative_move call.RecvAsync progress.Tried = Some move.TryRecv
  alternative_move (call.SendTimeout m) progress.Parked = Some move.WithdrawSend
  alternative_move (call.SendAsync m) progress.Parked = Some move.WithdrawSend
  alternative_move call.RecvTimeout progress.Parked = Some move.Withdraw
  alternative_move call.RecvAsync progress.Parked = Some move.Withdraw
  alternative_move _ _ = None

  -- the next move of a call, or the other one
  abbrev pub move_of : Call T → Progress → Bool → Option Move
  move_of call progress other =
      if other then alternative_move call progress else next_move call progress

  -- the step of a move of a call that has this ticket; none if the call has no message to send
  abbrev pub step_for : Call T → ℕ → Move → Option (Step T)
  step_for call ticket move.TrySend = option_map step.TrySend (message_of call)
  step_for call ticket move.Send = option_map step.Send (message_of call)
  step_for call ticket move.PollSend = Some (step.PollSend ticket)
  step_for call ticket move.WithdrawSend = Some (step.WithdrawSend ticket)
  step_for call ticket move.TryRecv = Some step.TryRecv
  step_for call ticket (move.Recv kind) = Some (step.Recv kind)
  step_for call ticket move.Poll = Some (step.Poll ticket)
  step_for call ticket move.Withdraw = Some (step.Withdraw ticket)
  step_for call ticket move.Drain = Some step.Drain
  step_for call ticket move.CloneSender = Some step.CloneSender
  step_for call ticket move.CloneReceiver = Some step.CloneReceiver
  step_for call ticket move.DropSender = Some step.DropSender
  step_for call ticket move.DropReceiver = Some step.DropReceiver
  step_for call ticket (move.SetCapacity n) = Some (step.SetCapacity n)
  step_for call ticket move.Len = Some step.Len
  step_for call ticket move.IsEmpty = Some step.IsEmpty
  step_for call ticket move.IsFull = Some step.IsFull
  step_for call ticket move.Capacity = Some step.Capacity
  step_for call ticket move.SenderCount = Some step.SenderCount
  step_for call ticket move.ReceiverCount = Some step.ReceiverCount
  step_for call ticket move.IsDisconnected = Some step.IsDisconnected

module _ {T A : Type 0} where
  -- whether memory or a ticket was refused
  abbrev pub is_refusal : Reply T A → Bool
  is_refusal (NoMemory back) = true
  is_refusal (Spent back) = true
  is_refusal _ = false

  -- the step is the next one of the open call, or the other one that it may make
  abbrev pub IsStepOf : (other : Bool) → Option (Call T × Stage T A) → Step T → Type 0
  IsStepOf other None step = ⊥
  IsStepOf other (Some current) step =
      (if other then alternative_step current.0 current.1 else next_step current.0 current.1)
      ≡ Some step

  -- the item is a step of the open call of this thread, which was refused memory or not
  abbrev pub IsMove : List (Item T A) → ℕ → (other refused : Bool) → Item T A → Type 0
  IsMove past t other refused (Happens event) = ⊥
  IsMove past t other refused (Makes u step reply) =
      (u ≡ t) × (is_refusal reply ≡ refused) × IsStepOf other (open_call past t) step
