-- Which replies are lawful, and runs; and when two replies are the same.
use Rattle.std.specs.Prelude.{◌≡◌, ◌==◌, ◌<◌, ◌≤◌, ◌⊎◌, true, false, [], ◌∷◌, length, Some, None}
use Rattle.flume_model.specs.declared.step.Step.{Step}
use Rattle.flume_model.specs.declared.step.Step.TheVariants.{TrySend, Send, PollSend, WithdrawSend}
use Rattle.flume_model.specs.declared.step.Step.TheVariants.{TryRecv, Recv, Poll, Withdraw, Drain}
use Rattle.flume_model.specs.declared.step.Step.TheVariants.{CloneSender, CloneReceiver, DropSender}
use Rattle.flume_model.specs.declared.step.Step.TheVariants.{DropReceiver, SetCapacity, Len}
use Rattle.flume_model.specs.declared.step.Step.TheVariants.{IsEmpty, IsFull, Capacity, SenderCount}
use Rattle.flume_model.specs.declared.step.Step.TheVariants.{ReceiverCount, IsDisconnected}
use Rattle.flume_model.specs.declared.step.Reply.{Reply}
use Rattle.flume_model.specs.declared.step.Reply.TheVariants.{Sent, Full, Closed, NoMemory, Spent}
use Rattle.flume_model.specs.declared.step.Reply.TheVariants.{Pending, Accepted, Waiting, Returned}
use Rattle.flume_model.specs.declared.step.Reply.TheVariants.{NoTicket, Got, Empty, Ended, Parked}
use Rattle.flume_model.specs.declared.step.Reply.TheVariants.{Drained, Done, NoEnd, CountFull}
use Rattle.flume_model.specs.declared.step.Reply.TheVariants.{Number, Flag, Capacity as Bound}
use Rattle.flume_model.specs.declared.step.Reply.TheVariants.{Unbounded}
use Rattle.flume_model.specs.Log.{Log, Opening}
use Rattle.flume_model.specs.Limits.{IsBounded, is_full, IsOpen, IsClosed, is_closed, most}
use Rattle.flume_model.specs.Entries.{round_fills, entry_of}
use Rattle.flume_model.specs.Channel.{Channel, TakesIn, TakesNoneIn, IsFront, IsAccepted, IsPending}
use Rattle.flume_model.specs.Channel.{IsBlocked, channel}
use Rattle.flume_model.specs.Asking.{IsPollReply, IsWithdrawReply}

module _ {T A : Type 0} where
  -- the same reply: two drained lists are the same by their messages, wherever they are kept
  abbrev pub SameReply : Reply T A → Reply T A → Type 0
  SameReply (Drained list) (Drained other) = list.items ≡ other.items
  SameReply reply other = reply ≡ other

  -- the channel may answer the step so; only a step that needs memory may have two such replies
  abbrev pub IsReply : Channel T → Step T → Reply T A → Type 0
  IsReply c (TrySend m) (Sent filled) = TakesIn c × (filled ≡ round_fills c.entries)
  IsReply c (TrySend m) (NoMemory back) = TakesIn c × (back ≡ Some m)
  IsReply c (TrySend m) (Full back) = TakesNoneIn c × (back ≡ m)
  IsReply c (TrySend m) (Closed back) = IsClosed c.senders c.receivers × (back ≡ m)
  IsReply c (Send m) (Sent filled) = TakesIn c × (filled ≡ round_fills c.entries)
  IsReply c (Send m) (Pending t) = TakesNoneIn c × (c.next_ticket < most) × (t ≡ c.next_ticket)
  IsReply c (Send m) (NoMemory back) =
      IsOpen c.senders c.receivers × (TakesNoneIn c → c.next_ticket < most) × (back ≡ Some m)
  IsReply c (Send m) (Spent back) = TakesNoneIn c × (most ≤ c.next_ticket) × (back ≡ Some m)
  IsReply c (Send m) (Closed back) = IsClosed c.senders c.receivers × (back ≡ m)
  IsReply c (PollSend t) NoTicket = c.is_live t ≡ false
  IsReply c (PollSend t) Accepted = IsAccepted c t
  IsReply c (PollSend t) Waiting = IsPending c t × IsOpen c.senders c.receivers
  IsReply c (PollSend t) (Returned m closed) =
      IsBlocked c t m × IsClosed c.senders c.receivers × (closed ≡ true)
  IsReply c (WithdrawSend t) NoTicket = c.is_live t ≡ false
  IsReply c (WithdrawSend t) Accepted = IsAccepted c t
  IsReply c (WithdrawSend t) (Returned m closed) =
      IsBlocked c t m × (closed ≡ is_closed c.senders c.receivers)
  IsReply c TryRecv (Got m) = IsFront c m
  IsReply c TryRecv (NoMemory back) = (c.queue_len < length c.line) × (back ≡ None)
  IsReply c TryRecv Ended = (c.line ≡ []) × IsClosed c.senders c.receivers
  IsReply c TryRecv Empty = (c.line ≡ []) × IsOpen c.senders c.receivers
  IsReply c (Recv kind) (Got m) = IsFront c m
  IsReply c (Recv kind) (NoMemory back) =
      ((c.queue_len < length c.line)
      ⊎ ((c.line ≡ []) × IsOpen c.senders c.receivers × (c.next_ticket < most))) × (back ≡ None)
  IsReply c (Recv kind) Ended = (c.line ≡ []) × IsClosed c.senders c.receivers
  IsReply c (Recv kind) (Spent back) =
      (c.line ≡ []) × IsOpen c.senders c.receivers × (most ≤ c.next_ticket) × (back ≡ None)
  IsReply c (Recv kind) (Parked t) =
      (c.line ≡ []) × IsOpen c.senders c.receivers × (c.next_ticket < most) × (t ≡ c.next_ticket)
  IsReply c (Poll t) reply = IsPollReply c (entry_of t c.entries) reply
  IsReply c (Withdraw t) reply = IsWithdrawReply c t (entry_of t c.entries) reply
  IsReply c Drain (Drained list) = list.items ≡ c.queue
  IsReply c Drain (NoMemory back) = (0 < c.queue_len) × (back ≡ None)
  IsReply c CloneSender Done = (0 < c.senders) × (c.senders < most)
  IsReply c CloneSender NoEnd = c.senders ≡ 0
  IsReply c CloneSender CountFull = c.senders ≡ most
  IsReply c CloneReceiver Done = (0 < c.receivers) × (c.receivers < most)
  IsReply c CloneReceiver NoEnd = c.receivers ≡ 0
  IsReply c CloneReceiver CountFull = c.receivers ≡ most
  IsReply c DropSender Done = 0 < c.senders
  IsReply c DropSender NoEnd = c.senders ≡ 0
  IsReply c DropReceiver Done = 0 < c.receivers
  IsReply c DropReceiver NoEnd = c.receivers ≡ 0
  IsReply c (SetCapacity n) Unbounded = c.capacity ≡ None
  IsReply c (SetCapacity n) Ended = IsBounded c.capacity × IsClosed c.senders c.receivers
  IsReply c (SetCapacity n) Done = IsBounded c.capacity × IsOpen c.senders c.receivers
  IsReply c Len (Number n) = n ≡ c.queue_len
  IsReply c IsEmpty (Flag b) = b ≡ (c.queue_len == 0)
  IsReply c IsFull (Flag b) = b ≡ is_full c.capacity c.queue_len
  IsReply c Capacity (Bound bound) = bound ≡ c.capacity
  IsReply c SenderCount (Number n) = n ≡ c.senders
  IsReply c ReceiverCount (Number n) = n ≡ c.receivers
  IsReply c IsDisconnected (Flag b) = b ≡ is_closed c.senders c.receivers
  IsReply c _ _ = ⊥

  -- each reply is the abstract channel's, after what came before it
  abbrev pub IsRun : Opening → Log T A → Type 0
  IsRun opening [] = Unit {0}
  IsRun opening (p ∷ past) = IsReply (channel opening past) p.0 p.1 × IsRun opening past
