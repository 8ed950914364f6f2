-- A log of steps and replies, and what each step changes by its reply.
use Rattle.std.specs.Prelude.{◌==◌, ℕ, Bool, false, ◌||◌, if◌then◌else◌, List, [], ◌∷◌, min, Option}
use Rattle.std.specs.Prelude.{Some, None}
use Rattle.flume_model.specs.declared.step.Kind.{Kind}
use Rattle.flume_model.specs.declared.step.Step.{Step}
use Rattle.flume_model.specs.declared.step.Step.TheVariants.{TrySend, Send, PollSend, WithdrawSend}
use Rattle.flume_model.specs.declared.step.Step.TheVariants.{TryRecv, Recv, Poll, Withdraw, Drain}
use Rattle.flume_model.specs.declared.step.Step.TheVariants.{CloneSender, CloneReceiver, DropSender}
use Rattle.flume_model.specs.declared.step.Step.TheVariants.{DropReceiver, SetCapacity}
use Rattle.flume_model.specs.declared.step.Reply.{Reply}
use Rattle.flume_model.specs.declared.step.Reply.TheVariants.{Sent, Pending, Accepted, Waiting}
use Rattle.flume_model.specs.declared.step.Reply.TheVariants.{Returned, Got, Ended, Parked, Gone}
use Rattle.flume_model.specs.declared.step.Reply.TheVariants.{Drained, Done}

-- steps with their replies, the newest first; A is the allocator of the lists in replies
abbrev pub Log : Type 0 → Type 0 → Type 0
Log T A = List (Step T × Reply T A)

-- how a channel is opened: with a capacity, or none if it is unbounded, and with a first ticket
pub record Opening : Type 0 where
  pub capacity : Option ℕ
  pub first : ℕ

-- the opening with this capacity and this first ticket
abbrev pub opens : Option ℕ → ℕ → Opening
opens capacity first = record { capacity = capacity; first = first }

-- a message that the channel took, with the ticket under which it was blocked, if it was
pub record Offer (T : Type 0) : Type 0 where
  pub message : T
  pub ticket : Option ℕ

-- one message handed out: the reply shows it, or it filled the receiver parked under this ticket
pub data HandOut (T : Type 0) : Type 0 where
  Shown : T → HandOut T
  FilledIn : ℕ → HandOut T

-- what a step changes by its reply; most of what follows goes by these cases
pub data Change (T : Type 0) : Type 0 where
  -- a message is queued, and the receiver with this ticket is filled, if one is
  Queues : T → Option ℕ → Change T
  Blocks : T → ℕ → Change T
  -- the send with this ticket learns that its message was accepted
  Accepts : ℕ → Change T
  Withdraws : ℕ → Change T
  -- the front of the line is handed out, to the receiver with this ticket or to one not parked
  Takes : T → Option ℕ → Change T
  Drains : List T → Change T
  Parks : ℕ → Kind → Change T
  Asks : ℕ → Change T
  -- the receiver with this ticket, which was filled, leaves with its message
  Collects : ℕ → Change T
  -- the receiver with this ticket leaves with no message; its wake fills this one, if any
  Leaves : ℕ → Option ℕ → Change T
  SenderJoins : Change T
  ReceiverJoins : Change T
  SenderLeaves : Change T
  ReceiverLeaves : Change T
  Resizes : ℕ → Change T
  Stays : Change T

-- the lesser of a length and the capacity
abbrev pub capped : Option ℕ → ℕ → ℕ
capped None n = n
capped (Some capacity) n = min capacity n

-- whether this is the ticket
abbrev pub is_ticket : ℕ → Option ℕ → Bool
is_ticket t None = false
is_ticket t (Some u) = u == t

module _ {T A : Type 0} where
  -- the ticket of the receiver that was filled, if the reply names one
  abbrev pub filled_by : Reply T A → Option ℕ
  filled_by (Sent filled) = filled
  filled_by (Gone closed filled) = filled
  filled_by _ = None

  -- whether the receiver with this ticket was filled at some place of the log
  abbrev pub was_filled : Log T A → ℕ → Bool
  was_filled [] t = false
  was_filled (p ∷ past) t = is_ticket t (filled_by p.1) || was_filled past t

  -- what a step with this reply changes after the past
  abbrev pub change : Log T A → Step T → Reply T A → Change T
  change past (TrySend message) (Sent filled) = Queues message filled
  change past (Send message) (Sent filled) = Queues message filled
  change past (Send message) (Pending ticket) = Blocks message ticket
  change past (PollSend ticket) Accepted = Accepts ticket
  change past (PollSend ticket) (Returned message closed) = Withdraws ticket
  change past (WithdrawSend ticket) Accepted = Accepts ticket
  change past (WithdrawSend ticket) (Returned message closed) = Withdraws ticket
  change past TryRecv (Got message) = Takes message None
  change past (Recv kind) (Got message) = Takes message None
  change past (Recv kind) (Parked ticket) = Parks ticket kind
  change past (Poll t) (Got m) = if was_filled past t then Collects t else Takes m (Some t)
  change past (Poll ticket) Waiting = Asks ticket
  change past (Poll ticket) Ended = Leaves ticket None
  change past (Withdraw t) (Got m) = if was_filled past t then Collects t else Takes m (Some t)
  change past (Withdraw ticket) (Gone closed filled) = Leaves ticket filled
  change past Drain (Drained list) = Drains list.items
  change past CloneSender Done = SenderJoins
  change past CloneReceiver Done = ReceiverJoins
  change past DropSender Done = SenderLeaves
  change past DropReceiver Done = ReceiverLeaves
  change past (SetCapacity capacity) Done = Resizes capacity
  change past _ _ = Stays
