-- How a call ended that was polled, or an arm's: what its party did, by the answer.
use Rattle.std.specs.Prelude.{◌≡◌, List, [], ◌∷◌, Option, Some, None, Result, Ok, Err}
use Rattle.flume_model.specs.declared.step.Kind.{Kind}
use Rattle.flume_model.specs.declared.step.Step.TheVariants.{TrySend, TryRecv}
use Rattle.flume_model.specs.declared.step.Reply.{Reply}
use Rattle.flume_core.specs.declared.error.SendError.{SendError}
use Rattle.flume_core.specs.declared.error.SendError.TheVariants as send
use Rattle.flume_core.specs.declared.error.SendTimeoutError.{SendTimeoutError}
use Rattle.flume_core.specs.declared.error.SendTimeoutError.TheVariants as send_timeout
use Rattle.flume_core.specs.declared.error.RecvError.{RecvError}
use Rattle.flume_core.specs.declared.error.RecvError.TheVariants as receive
use Rattle.flume_core.specs.declared.error.RecvTimeoutError.{RecvTimeoutError}
use Rattle.flume_core.specs.declared.error.RecvTimeoutError.TheVariants as receive_timeout
use Rattle.flume_calls.specs.declared.calls.send.SendNext.TheVariants as send_next
use Rattle.flume_calls.specs.declared.calls.receive.RecvNext.TheVariants as receive_next
use Rattle.flume_calls.specs.SendTurns.{after_try_send}
use Rattle.flume_calls.specs.ReceiveTurns.{after_try_recv}
use Rattle.flume_party.specs.Parties.{PartyState, and_made}
use Rattle.flume_actions.specs.Actions.{Action}
use Rattle.flume_actions.specs.SendCalls.{IsPolledSend}
use Rattle.flume_actions.specs.ReceiveCalls.{IsPolledReceive}
use Rattle.flume_actions.specs.Calls.{sent_by, got_by}
use Rattle.flume_actions.specs.Callers.{HasMadeCalls}
use Rattle.flume.specs.declared.polled.traced_sink.Sending.{Sending}

module _ {T A : Type 0} where
  -- the actions are a receive's that ended with this result: it tried once, or it was polled
  pub data EndsReceive : List (Action T A) → Result T RecvTimeoutError → Type 0 where
    ReceivedByTry : {reply : Reply T A} {result : Result T RecvTimeoutError}
        → after_try_recv reply (receive_next.Done result)
        → EndsReceive ((TryRecv, reply) ∷ []) result
    ReceivedByPolls : {kind : Kind} {actions : List (Action T A)}
        {result : Result T RecvTimeoutError} → IsPolledReceive kind actions result → EndsReceive actions result

  -- the same of a send of this message
  pub data EndsSend (message : T)
      : List (Action T A) → Result (Unit {0}) (SendTimeoutError T) → Type 0 where
    SentByTry : {reply : Reply T A} {result : Result (Unit {0}) (SendTimeoutError T)}
        → after_try_send reply (send_next.Done result)
        → EndsSend message ((TrySend message, reply) ∷ []) result
    SentByPolls : {actions : List (Action T A)} {result : Result (Unit {0}) (SendTimeoutError T)}
        → IsPolledSend message actions result → EndsSend message actions result

module _ {T A : Type 0} (start : PartyState (Action T A)) where
  -- the party made whole calls that got nothing, and then a receive that ended with this result
  pub record HasEndedReceive (now : PartyState (Action T A)) (result : Result T RecvTimeoutError)
      : Type 0 where
    pub between : PartyState (Action T A)
    pub before : HasMadeCalls start between [] []
    pub actions : List (Action T A)
    pub ends : EndsReceive actions result
    pub made : now ≡ and_made between actions

  -- the party made whole calls that sent nothing, and then a send of this message that ended so
  pub record HasEndedSend (message : T) (now : PartyState (Action T A))
      (result : Result (Unit {0}) (SendTimeoutError T)) : Type 0 where
    pub between : PartyState (Action T A)
    pub before : HasMadeCalls start between [] []
    pub actions : List (Action T A)
    pub ends : EndsSend message actions result
    pub made : now ≡ and_made between actions

  -- What a receive did until this answer. Without memory it may not have ended, and got nothing.
  abbrev pub AnswersReceive : PartyState (Action T A) → Result T RecvError → Type 0
  AnswersReceive now (Ok message) = HasEndedReceive now (Ok message)
  AnswersReceive now (Err receive.Disconnected) =
      HasEndedReceive now (Err receive_timeout.Disconnected)
  AnswersReceive now (Err receive.NoMemory) = HasMadeCalls start now [] []

  -- the same of a send of this message
  abbrev pub AnswersSend : T → PartyState (Action T A) → Result (Unit {0}) (SendError T) → Type 0
  AnswersSend message now (Ok sent) = HasEndedSend message now (Ok tt)
  AnswersSend message now (Err (send.Disconnected back)) =
      HasEndedSend message now (Err (send_timeout.Disconnected back))
  AnswersSend message now (Err (send.NoMemory back)) = HasMadeCalls start now [] []

  -- what a sink did until this answer: if it had no message, that is `Ok`
  abbrev pub AnswersSink : Option (Sending T) → PartyState (Action T A)
      → Result (Unit {0}) (SendError T) → Type 0
  AnswersSink None now answer = answer ≡ Ok tt
  AnswersSink (Some sending) now answer = AnswersSend sending.message.value now answer

  -- the party of a receive with this answer
  pub record GivesReceive (now : PartyState (Action T A)) (answer : Result T RecvError)
      : Type 0 where
    -- it made whole calls, which got the message of the answer, or nothing
    pub called : HasMadeCalls start now [] (got_by answer)
    -- the last of them ended with the answer, unless there was no memory
    pub ended : AnswersReceive now answer

  -- the party of a send of this message with this answer
  pub record GivesSend (message : T) (now : PartyState (Action T A))
      (answer : Result (Unit {0}) (SendError T)) : Type 0 where
    -- it made whole calls, which sent the message if the answer is `Ok`, or nothing
    pub called : HasMadeCalls start now (sent_by message answer) []
    -- the last of them ended with the answer, unless there was no memory
    pub ended : AnswersSend message now answer
