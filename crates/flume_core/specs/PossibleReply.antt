-- Which replies a step of `Chan` has, whatever the state, and what each of them hands back.
use Rattle.std.specs.Prelude.{◌≡◌, Some, None}
use Rattle.flume_model.specs.declared.step.Step.{Step}
use Rattle.flume_model.specs.declared.step.Step.TheVariants.{TrySend, Send, PollSend, WithdrawSend}
use Rattle.flume_model.specs.declared.step.Step.TheVariants.{TryRecv, Recv, Poll, Withdraw, Drain}
use Rattle.flume_model.specs.declared.step.Step.TheVariants.{CloneSender, CloneReceiver, DropSender}
use Rattle.flume_model.specs.declared.step.Step.TheVariants.{DropReceiver, SetCapacity, Len}
use Rattle.flume_model.specs.declared.step.Step.TheVariants.{IsEmpty, IsFull}
use Rattle.flume_model.specs.declared.step.Step.TheVariants.{Capacity as CapacityQuery, SenderCount}
use Rattle.flume_model.specs.declared.step.Step.TheVariants.{ReceiverCount, IsDisconnected}
use Rattle.flume_model.specs.declared.step.Reply.{Reply}
use Rattle.flume_model.specs.declared.step.Reply.TheVariants.{Sent, Full, Closed, NoMemory, Spent}
use Rattle.flume_model.specs.declared.step.Reply.TheVariants.{Pending, Accepted, Waiting, Returned}
use Rattle.flume_model.specs.declared.step.Reply.TheVariants.{NoTicket, Got, Empty, Ended, Parked}
use Rattle.flume_model.specs.declared.step.Reply.TheVariants.{Gone, Drained, Done, NoEnd, CountFull}
use Rattle.flume_model.specs.declared.step.Reply.TheVariants.{Number, Flag, Capacity, Unbounded}

module _ {T A : Type 0} where
  -- the replies that a step may have: a refusal hands back the offer's own message, or none
  abbrev pub PossibleReply : Step T → Reply T A → Type 0
  PossibleReply (TrySend message) (Sent filled) = Unit {0}
  PossibleReply (TrySend message) (Full back) = back ≡ message
  PossibleReply (TrySend message) (Closed back) = back ≡ message
  PossibleReply (TrySend message) (NoMemory back) = back ≡ Some message
  PossibleReply (Send message) (Sent filled) = Unit {0}
  PossibleReply (Send message) (Pending ticket) = Unit {0}
  PossibleReply (Send message) (Closed back) = back ≡ message
  PossibleReply (Send message) (Spent back) = back ≡ Some message
  PossibleReply (Send message) (NoMemory back) = back ≡ Some message
  PossibleReply (PollSend ticket) Accepted = Unit {0}
  PossibleReply (PollSend ticket) Waiting = Unit {0}
  PossibleReply (PollSend ticket) (Returned message closed) = Unit {0}
  PossibleReply (PollSend ticket) NoTicket = Unit {0}
  PossibleReply (WithdrawSend ticket) Accepted = Unit {0}
  PossibleReply (WithdrawSend ticket) (Returned message closed) = Unit {0}
  PossibleReply (WithdrawSend ticket) NoTicket = Unit {0}
  PossibleReply TryRecv (Got message) = Unit {0}
  PossibleReply TryRecv Empty = Unit {0}
  PossibleReply TryRecv Ended = Unit {0}
  PossibleReply (Recv kind) (Got message) = Unit {0}
  PossibleReply (Recv kind) (Parked ticket) = Unit {0}
  PossibleReply (Recv kind) Ended = Unit {0}
  PossibleReply (Recv kind) (Spent back) = back ≡ None
  PossibleReply (Recv kind) (NoMemory back) = back ≡ None
  PossibleReply (Poll ticket) (Got message) = Unit {0}
  PossibleReply (Poll ticket) Waiting = Unit {0}
  PossibleReply (Poll ticket) Ended = Unit {0}
  PossibleReply (Poll ticket) NoTicket = Unit {0}
  PossibleReply (Withdraw ticket) (Got message) = Unit {0}
  PossibleReply (Withdraw ticket) (Gone closed filled) = Unit {0}
  PossibleReply (Withdraw ticket) NoTicket = Unit {0}
  PossibleReply Drain (Drained list) = Unit {0}
  PossibleReply Drain (NoMemory back) = back ≡ None
  PossibleReply CloneSender Done = Unit {0}
  PossibleReply CloneSender NoEnd = Unit {0}
  PossibleReply CloneSender CountFull = Unit {0}
  PossibleReply CloneReceiver Done = Unit {0}
  PossibleReply CloneReceiver NoEnd = Unit {0}
  PossibleReply CloneReceiver CountFull = Unit {0}
  PossibleReply DropSender Done = Unit {0}
  PossibleReply DropSender NoEnd = Unit {0}
  PossibleReply DropReceiver Done = Unit {0}
  PossibleReply DropReceiver NoEnd = Unit {0}
  PossibleReply (SetCapacity n) Done = Unit {0}
  PossibleReply (SetCapacity n) Ended = Unit {0}
  PossibleReply (SetCapacity n) Unbounded = Unit {0}
  PossibleReply Len (Number n) = Unit {0}
  PossibleReply IsEmpty (Flag b) = Unit {0}
  PossibleReply IsFull (Flag b) = Unit {0}
  PossibleReply CapacityQuery (Capacity n) = Unit {0}
  PossibleReply SenderCount (Number n) = Unit {0}
  PossibleReply ReceiverCount (Number n) = Unit {0}
  PossibleReply IsDisconnected (Flag b) = Unit {0}
  PossibleReply _ _ = ⊥
