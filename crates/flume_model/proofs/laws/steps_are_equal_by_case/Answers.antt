-- By the cases of the two steps.
use Rattle.std.proofs.Common.{◌≡◌, refl}
use Rattle.flume_model.specs.declared.step.Kind.{Kind}
use Rattle.flume_model.specs.declared.step.Kind.TheVariants.{Block, Plain, Stream, Arm}
use Rattle.flume_model.specs.declared.step.Step.{Step}
use Rattle.flume_model.specs.declared.step.Step.TheVariants.{TrySend, Send, PollSend, WithdrawSend}
use Rattle.flume_model.specs.declared.step.Step.TheVariants.{TryRecv, Recv, Poll, Withdraw, Drain}
use Rattle.flume_model.specs.declared.step.Step.TheVariants.{CloneSender, CloneReceiver}
use Rattle.flume_model.specs.declared.step.Step.TheVariants.{DropSender, DropReceiver, SetCapacity}
use Rattle.flume_model.specs.declared.step.Step.TheVariants.{Len, IsEmpty, IsFull, Capacity}
use Rattle.flume_model.specs.declared.step.Step.TheVariants.{SenderCount, ReceiverCount}
use Rattle.flume_model.specs.declared.step.Step.TheVariants.{IsDisconnected}
use Rattle.flume_model.specs.contracts.step.StepPartialEq.TheImpl as steps
use Rattle.flume_model.specs.EqualSteps.{equal_steps}
use Rattle.flume_model.proofs.laws.steps_are_equal_by_case.Given as given
use Rattle.flume_model.proofs.laws.steps_are_equal_by_case.Goals as goal

module _ (g : given.Over) where
  -- the comparison of two steps is that of the table
  abbrev IsTabled : Step g.row.T.Denot → Step g.row.T.Denot → Type 0
  IsTabled step other =
      (steps.ghosts g.row.T g.T.PartialEq g.T.PartialEq-dict).eq step other ≡ equal_steps g.T.PartialEq.eq step other

  kinds : (k l : Kind) → IsTabled (Recv k) (Recv l)
  kinds Block Block = refl
  kinds Block _ = refl
  kinds Plain Plain = refl
  kinds Plain _ = refl
  kinds Stream Stream = refl
  kinds Stream _ = refl
  kinds Arm Arm = refl
  kinds Arm _ = refl

  tabled : (step other : Step g.row.T.Denot) → IsTabled step other
  tabled (TrySend x) (TrySend y) = refl
  tabled (TrySend x) _ = refl
  tabled (Send x) (Send y) = refl
  tabled (Send x) _ = refl
  tabled (PollSend t) (PollSend u) = refl
  tabled (PollSend t) _ = refl
  tabled (WithdrawSend t) (WithdrawSend u) = refl
  tabled (WithdrawSend t) _ = refl
  tabled TryRecv TryRecv = refl
  tabled TryRecv _ = refl
  tabled (Recv k) (Recv l) = kinds k l
  tabled (Recv k) _ = refl
  tabled (Poll t) (Poll u) = refl
  tabled (Poll t) _ = refl
  tabled (Withdraw t) (Withdraw u) = refl
  tabled (Withdraw t) _ = refl
  tabled Drain Drain = refl
  tabled Drain _ = refl
  tabled CloneSender CloneSender = refl
  tabled CloneSender _ = refl
  tabled CloneReceiver CloneReceiver = refl
  tabled CloneReceiver _ = refl
  tabled DropSender DropSender = refl
  tabled DropSender _ = refl
  tabled DropReceiver DropReceiver = refl
  tabled DropReceiver _ = refl
  tabled (SetCapacity n) (SetCapacity m) = refl
  tabled (SetCapacity n) _ = refl
  tabled Len Len = refl
  tabled Len _ = refl
  tabled IsEmpty IsEmpty = refl
  tabled IsEmpty _ = refl
  tabled IsFull IsFull = refl
  tabled IsFull _ = refl
  tabled Capacity Capacity = refl
  tabled Capacity _ = refl
  tabled SenderCount SenderCount = refl
  tabled SenderCount _ = refl
  tabled ReceiverCount ReceiverCount = refl
  tabled ReceiverCount _ = refl
  tabled IsDisconnected IsDisconnected = refl
  tabled IsDisconnected _ = refl

pub returns : goal.returns
returns g c = record { same = tabled g }
