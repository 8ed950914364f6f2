-- When two steps are equal.
use Rattle.std.specs.Prelude.{Bool, true, false, nat_eq}
use Rattle.flume_model.specs.declared.step.Kind.{Kind}
use Rattle.flume_model.specs.declared.step.Kind.TheVariants.{Block, Plain, Stream, Arm}
use Rattle.flume_model.specs.declared.step.Step.{Step}
use Rattle.flume_model.specs.declared.step.Step.TheVariants.{TrySend, Send, PollSend, WithdrawSend}
use Rattle.flume_model.specs.declared.step.Step.TheVariants.{TryRecv, Recv, Poll, Withdraw, Drain}
use Rattle.flume_model.specs.declared.step.Step.TheVariants.{CloneSender, CloneReceiver, DropSender}
use Rattle.flume_model.specs.declared.step.Step.TheVariants.{DropReceiver, SetCapacity, Len}
use Rattle.flume_model.specs.declared.step.Step.TheVariants.{IsEmpty, IsFull, Capacity, SenderCount}
use Rattle.flume_model.specs.declared.step.Step.TheVariants.{ReceiverCount, IsDisconnected}

-- whether two kinds are the same
abbrev pub equal_kinds : Kind → Kind → Bool
equal_kinds Block Block = true
equal_kinds Plain Plain = true
equal_kinds Stream Stream = true
equal_kinds Arm Arm = true
equal_kinds _ _ = false

module _ {T : Type 0} where
  -- whether two steps are equal, if `equal` compares messages
  abbrev pub equal_steps : (T → T → Bool) → Step T → Step T → Bool
  equal_steps equal (TrySend x) (TrySend y) = equal x y
  equal_steps equal (Send x) (Send y) = equal x y
  equal_steps equal (PollSend t) (PollSend u) = nat_eq t u
  equal_steps equal (WithdrawSend t) (WithdrawSend u) = nat_eq t u
  equal_steps equal TryRecv TryRecv = true
  equal_steps equal (Recv k) (Recv l) = equal_kinds k l
  equal_steps equal (Poll t) (Poll u) = nat_eq t u
  equal_steps equal (Withdraw t) (Withdraw u) = nat_eq t u
  equal_steps equal Drain Drain = true
  equal_steps equal CloneSender CloneSender = true
  equal_steps equal CloneReceiver CloneReceiver = true
  equal_steps equal DropSender DropSender = true
  equal_steps equal DropReceiver DropReceiver = true
  equal_steps equal (SetCapacity n) (SetCapacity m) = nat_eq n m
  equal_steps equal Len Len = true
  equal_steps equal IsEmpty IsEmpty = true
  equal_steps equal IsFull IsFull = true
  equal_steps equal Capacity Capacity = true
  equal_steps equal SenderCount SenderCount = true
  equal_steps equal ReceiverCount ReceiverCount = true
  equal_steps equal IsDisconnected IsDisconnected = true
  equal_steps equal _ _ = false
