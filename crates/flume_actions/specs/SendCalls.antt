-- The actions of a call that sends, in their order, and its result.
use Rattle.std.specs.Prelude.{ℕ, List, [], ◌∷◌, Result, Err}
use Rattle.flume_model.specs.declared.step.Step.TheVariants.{TrySend, Send, PollSend, WithdrawSend}
use Rattle.flume_model.specs.declared.step.Reply.{Reply}
use Rattle.flume_core.specs.declared.error.SendTimeoutError.{SendTimeoutError}
use Rattle.flume_core.specs.declared.error.SendTimeoutError.TheVariants.{NoMemory}
use Rattle.flume_calls.specs.declared.calls.send.SendNext.TheVariants.{Done, NeedSignal, Park}
use Rattle.flume_calls.specs.SendTurns.{after_try_send, after_send, after_poll_send}
use Rattle.flume_calls.specs.SendTurns.{after_withdraw_send}
use Rattle.flume_actions.specs.Actions.{Action}

module _ {T A : Type 0} where
  -- what a send blocked under this ticket does until it ends: it asks, and withdraws if it is late
  pub data IsBlockedSend (ticket : ℕ)
      : List (Action T A) → Result (Unit {0}) (SendTimeoutError T) → Type 0 where
    Ended : {reply : Reply T A} {result : Result (Unit {0}) (SendTimeoutError T)}
        → after_poll_send ticket reply (Done result)
        → IsBlockedSend ticket ((PollSend ticket, reply) ∷ []) result
    Late : {reply last : Reply T A} {result : Result (Unit {0}) (SendTimeoutError T)}
        → after_poll_send ticket reply (Park ticket) → after_withdraw_send last (Done result)
        → IsBlockedSend ticket ((PollSend ticket, reply) ∷ (WithdrawSend ticket, last) ∷ []) result
    Waited : {reply : Reply T A} {later : List (Action T A)}
        {result : Result (Unit {0}) (SendTimeoutError T)}
        → after_poll_send ticket reply (Park ticket) → IsBlockedSend ticket later result
        → IsBlockedSend ticket ((PollSend ticket, reply) ∷ later) result

  -- what a send of the message does: it tries, and if the channel is full, it blocks
  pub data IsSend (message : T)
      : List (Action T A) → Result (Unit {0}) (SendTimeoutError T) → Type 0 where
    Tried : {reply : Reply T A} {result : Result (Unit {0}) (SendTimeoutError T)}
        → after_try_send reply (Done result) → IsSend message ((TrySend message, reply) ∷ []) result
    -- there was no memory to wait
    Unable : {reply : Reply T A} → after_try_send reply (NeedSignal message)
        → IsSend message ((TrySend message, reply) ∷ []) (Err (NoMemory message))
    NotBlocked : {full reply : Reply T A} {result : Result (Unit {0}) (SendTimeoutError T)}
        → after_try_send full (NeedSignal message) → after_send reply (Done result)
        → IsSend message ((TrySend message, full) ∷ (Send message, reply) ∷ []) result
    Blocked : {full reply : Reply T A} {ticket : ℕ} {later : List (Action T A)}
        {result : Result (Unit {0}) (SendTimeoutError T)}
        → after_try_send full (NeedSignal message) → after_send reply (Park ticket)
        → IsBlockedSend ticket later result
        → IsSend message ((TrySend message, full) ∷ (Send message, reply) ∷ later) result

  -- what a send that is polled does, blocked under this ticket, until it ends: it asks at each
  -- poll, and may withdraw
  pub data IsBlockedPolls (ticket : ℕ)
      : List (Action T A) → Result (Unit {0}) (SendTimeoutError T) → Type 0 where
    Answered : {reply : Reply T A} {result : Result (Unit {0}) (SendTimeoutError T)}
        → after_poll_send ticket reply (Done result)
        → IsBlockedPolls ticket ((PollSend ticket, reply) ∷ []) result
    Left : {reply : Reply T A} {result : Result (Unit {0}) (SendTimeoutError T)}
        → after_withdraw_send reply (Done result)
        → IsBlockedPolls ticket ((WithdrawSend ticket, reply) ∷ []) result
    Pending : {reply : Reply T A} {later : List (Action T A)}
        {result : Result (Unit {0}) (SendTimeoutError T)}
        → after_poll_send ticket reply (Park ticket) → IsBlockedPolls ticket later result
        → IsBlockedPolls ticket ((PollSend ticket, reply) ∷ later) result

  -- what a send of the message does that is polled with a signal: it ends at once, or blocks
  pub data IsPolledSend (message : T)
      : List (Action T A) → Result (Unit {0}) (SendTimeoutError T) → Type 0 where
    AtOnce : {reply : Reply T A} {result : Result (Unit {0}) (SendTimeoutError T)}
        → after_send reply (Done result) → IsPolledSend message ((Send message, reply) ∷ []) result
    Polled : {reply : Reply T A} {ticket : ℕ} {later : List (Action T A)}
        {result : Result (Unit {0}) (SendTimeoutError T)}
        → after_send reply (Park ticket) → IsBlockedPolls ticket later result
        → IsPolledSend message ((Send message, reply) ∷ later) result
