-- The steps of turns that are a whole call.
use Rattle.std.specs.Prelude.{◌≡◌, Result, Ok, Err}
use Rattle.flume_model.specs.declared.step.Step.{Step}
use Rattle.flume_model.specs.declared.step.Step.TheVariants as step
use Rattle.flume_model.specs.declared.step.Reply.{Reply}
use Rattle.flume_model.specs.declared.step.Reply.TheVariants as reply
use Rattle.flume_core.specs.declared.error.CapacityError.{CapacityError}
use Rattle.flume_core.specs.declared.error.CapacityError.TheVariants as error
use Rattle.flume_calls.specs.declared.single.EndStep.{EndStep}
use Rattle.flume_calls.specs.declared.single.EndStep.TheVariants as end
use Rattle.flume_calls.specs.declared.single.CountQuery.{CountQuery}
use Rattle.flume_calls.specs.declared.single.CountQuery.TheVariants as number
use Rattle.flume_calls.specs.declared.single.FlagQuery.{FlagQuery}
use Rattle.flume_calls.specs.declared.single.FlagQuery.TheVariants as flag

module _ {T : Type 0} where
  -- the step of an end
  abbrev pub end_step : EndStep → Step T
  end_step end.CloneSender = step.CloneSender
  end_step end.CloneReceiver = step.CloneReceiver
  end_step end.DropSender = step.DropSender
  end_step end.DropReceiver = step.DropReceiver

  -- the step that asks for a number
  abbrev pub count_query_step : CountQuery → Step T
  count_query_step number.Len = step.Len
  count_query_step number.SenderCount = step.SenderCount
  count_query_step number.ReceiverCount = step.ReceiverCount

  -- the step that asks for a flag
  abbrev pub flag_query_step : FlagQuery → Step T
  flag_query_step flag.IsEmpty = step.IsEmpty
  flag_query_step flag.IsFull = step.IsFull
  flag_query_step flag.IsDisconnected = step.IsDisconnected

module _ {T A : Type 0} where
  -- what a change of the capacity answers to each reply
  abbrev pub after_set_capacity : Reply T A → Result (Unit {0}) CapacityError → Type 0
  after_set_capacity reply.Done answer = answer ≡ Ok tt
  after_set_capacity reply.Unbounded answer = answer ≡ Err error.Unbounded
  after_set_capacity reply.Ended answer = answer ≡ Err error.Disconnected
  after_set_capacity _ answer = ⊥
