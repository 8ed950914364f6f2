-- The actions of a call that receives, in their order, and its result.
use Rattle.std.specs.Prelude.{ℕ, List, [], ◌∷◌, Result, Err}
use Rattle.flume_model.specs.declared.step.Kind.{Kind}
use Rattle.flume_model.specs.declared.step.Kind.TheVariants.{Block}
use Rattle.flume_model.specs.declared.step.Step.TheVariants.{TryRecv, Recv, Poll, Withdraw}
use Rattle.flume_model.specs.declared.step.Reply.{Reply}
use Rattle.flume_core.specs.declared.error.RecvTimeoutError.{RecvTimeoutError}
use Rattle.flume_core.specs.declared.error.RecvTimeoutError.TheVariants.{NoMemory}
use Rattle.flume_calls.specs.declared.calls.receive.RecvNext.TheVariants as next
use Rattle.flume_calls.specs.declared.calls.receive.RecvNext.TheVariants.{Done, NeedSignal, Park}
use Rattle.flume_calls.specs.ReceiveTurns.{after_try_recv, after_recv, after_poll, after_withdraw}
use Rattle.flume_calls.specs.ReceiveGates.{got_or_no_memory}
use Rattle.flume_actions.specs.Actions.{Action}

module _ {T A : Type 0} where
  -- what a receive parked under this ticket does until it ends: it asks, and withdraws if it is
  -- late or memory ran out
  pub data IsParkedReceive (ticket : ℕ)
      : List (Action T A) → Result T RecvTimeoutError → Type 0 where
    Ended : {reply : Reply T A} {result : Result T RecvTimeoutError}
        → after_poll ticket reply (Done result)
        → IsParkedReceive ticket ((Poll ticket, reply) ∷ []) result
    Refused : {reply last : Reply T A} (answer : Result T RecvTimeoutError)
        → after_poll ticket reply (next.Refused ticket) → after_withdraw last (Done answer)
        → IsParkedReceive ticket ((Poll ticket, reply) ∷ (Withdraw ticket, last) ∷ [])
        (got_or_no_memory answer)
    Late : {reply last : Reply T A} {result : Result T RecvTimeoutError}
        → after_poll ticket reply (Park ticket) → after_withdraw last (Done result)
        → IsParkedReceive ticket ((Poll ticket, reply) ∷ (Withdraw ticket, last) ∷ []) result
    Waited : {reply : Reply T A} {later : List (Action T A)} {result : Result T RecvTimeoutError}
        → after_poll ticket reply (Park ticket) → IsParkedReceive ticket later result
        → IsParkedReceive ticket ((Poll ticket, reply) ∷ later) result

  -- what a receive does: it tries, and if nothing is there, it parks
  pub data IsReceive : List (Action T A) → Result T RecvTimeoutError → Type 0 where
    Tried : {reply : Reply T A} {result : Result T RecvTimeoutError}
        → after_try_recv reply (Done result) → IsReceive ((TryRecv, reply) ∷ []) result
    -- there was no memory to wait
    Unable : {reply : Reply T A} → after_try_recv reply NeedSignal
        → IsReceive ((TryRecv, reply) ∷ []) (Err NoMemory)
    NotParked : {empty reply : Reply T A} {result : Result T RecvTimeoutError}
        → after_try_recv empty NeedSignal → after_recv reply (Done result)
        → IsReceive ((TryRecv, empty) ∷ (Recv Block, reply) ∷ []) result
    Parked : {empty reply : Reply T A} {ticket : ℕ} {later : List (Action T A)}
        {result : Result T RecvTimeoutError}
        → after_try_recv empty NeedSignal → after_recv reply (Park ticket)
        → IsParkedReceive ticket later result
        → IsReceive ((TryRecv, empty) ∷ (Recv Block, reply) ∷ later) result

  -- what a receive that is polled does, parked under this ticket, until it ends: it asks at each
  -- poll, and may withdraw; a poll that runs out of memory leaves it parked
  pub data IsParkedPolls (ticket : ℕ)
      : List (Action T A) → Result T RecvTimeoutError → Type 0 where
    Answered : {reply : Reply T A} {result : Result T RecvTimeoutError}
        → after_poll ticket reply (Done result)
        → IsParkedPolls ticket ((Poll ticket, reply) ∷ []) result
    Left : {reply : Reply T A} {result : Result T RecvTimeoutError}
        → after_withdraw reply (Done result)
        → IsParkedPolls ticket ((Withdraw ticket, reply) ∷ []) result
    Pending : {reply : Reply T A} {later : List (Action T A)} {result : Result T RecvTimeoutError}
        → after_poll ticket reply (Park ticket) → IsParkedPolls ticket later result
        → IsParkedPolls ticket ((Poll ticket, reply) ∷ later) result
    OutOfMemory : {reply : Reply T A} {later : List (Action T A)}
        {result : Result T RecvTimeoutError}
        → after_poll ticket reply (next.Refused ticket) → IsParkedPolls ticket later result
        → IsParkedPolls ticket ((Poll ticket, reply) ∷ later) result

  -- what a receive of this kind does that is polled with a signal: it ends at once, or parks
  pub data IsPolledReceive (kind : Kind)
      : List (Action T A) → Result T RecvTimeoutError → Type 0 where
    AtOnce : {reply : Reply T A} {result : Result T RecvTimeoutError}
        → after_recv reply (Done result) → IsPolledReceive kind ((Recv kind, reply) ∷ []) result
    Polled : {reply : Reply T A} {ticket : ℕ} {later : List (Action T A)}
        {result : Result T RecvTimeoutError}
        → after_recv reply (Park ticket) → IsParkedPolls ticket later result
        → IsPolledReceive kind ((Recv kind, reply) ∷ later) result
