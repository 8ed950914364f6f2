-- Receives of many messages: the steps of their turns, and the room of the list.
use Rattle.std.specs.Prelude.{◌≡◌, ℕ, ◌+◌, ◌<◌, Bool, List, Result, Err, Vec, vec_len}
use Rattle.std.specs.Prelude.{vec_capacity}
use Rattle.flume_model.specs.declared.step.Kind.TheVariants.{Block}
use Rattle.flume_model.specs.declared.step.Step.{Step}
use Rattle.flume_model.specs.declared.step.Step.TheVariants.{TryRecv, Recv}
use Rattle.flume_model.specs.declared.step.Reply.{Reply}
use Rattle.flume_model.specs.Log.{Log, Opening}
use Rattle.flume_model.specs.Replies.{IsRun}
use Rattle.flume_core.specs.declared.error.RecvTimeoutError.{RecvTimeoutError}
use Rattle.flume_core.specs.declared.error.RecvTimeoutError.TheVariants.{NoMemory}
use Rattle.flume_calls.specs.declared.calls.receive.RecvNext.{RecvNext}
use Rattle.flume_calls.specs.declared.calls.receive.RecvNext.TheVariants.{Done, NeedSignal}
use Rattle.flume_calls.specs.Batches.{log_after}
use Rattle.flume_calls.specs.ReceiveTurns.{after_try_recv, after_recv, after_parked_receive}
use Rattle.flume_calls.specs.ReceiveTurns.{step_of_parked_receive}
use Rattle.flume_calls.specs.ManyReceives.{FirstManyTable}
use Rattle.flume.specs.LockedTurns.{HasMade}
use Rattle.flume.specs.ManyReceiveCalls.{AnswersMany}

module _ {T A N : Type 0} where
  -- some channel's run goes on with some steps and replies, to which the table has this answer
  pub record HasMadeAll (table : List (Step T × Reply T A) → N → Type 0) (answer : N)
      : Type 0 where
    pub opening : Opening
    pub log : Log T A
    pub made : List (Step T × Reply T A)
    pub run : IsRun opening (log_after log made)
    pub answered : table made answer

module _ {T A : Type 0} where
  -- if there was no memory for more, the list had less room than was asked for
  abbrev pub LacksRoom : Vec T A → ℕ → RecvNext ℕ → Type 0
  LacksRoom buffer most (Done (Err NoMemory)) = vec_capacity buffer < vec_len buffer + most
  LacksRoom buffer most _ = Unit {0}

-- no message was there
abbrev pub FindsNone : (T A : Type 0) → Type 0
FindsNone T A = HasMade {T = T} {A = A} TryRecv after_try_recv NeedSignal

module _ {T : Type 0} (A : Type 0) where
  -- a first receive of many, from what the list holds to what it holds after it
  abbrev pub ReceivesBatch : List T → List T → RecvNext ℕ → Type 0
  ReceivesBatch before after =
      HasMadeAll {A = A} (λ made next. FirstManyTable before made after next)

  -- one step was made, and the answer has how many came
  abbrev pub MakesMany : Step T → (Reply T A → RecvNext T → Type 0) → RecvNext ℕ → Type 0
  MakesMany step table = AnswersMany (λ first. HasMade step table first)

  -- how a receive of many that may wait ended, by the turn that ended it
  pub data ReceivesMany (before after : List T) (result : Result ℕ RecvTimeoutError)
      : Type 0 where
    AtFirst : ReceivesBatch before after (Done result) → ReceivesMany before after result
    NoWaiter : FindsNone T A → result ≡ Err NoMemory → ReceivesMany before after result
    AtPark : FindsNone T A → MakesMany (Recv Block) after_recv (Done result)
        → ReceivesMany before after result
    AtAgain : FindsNone T A → (ticket : ℕ) → (last : Bool)
        → MakesMany (step_of_parked_receive ticket last) (after_parked_receive ticket last)
        (Done result) → ReceivesMany before after result
