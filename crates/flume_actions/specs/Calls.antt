-- The actions of a party as whole calls: what they sent, and what they got.
use Rattle.std.specs.Prelude.{◌≡◌, List, [], ◌∷◌, ◌++◌, Vec, Option, Result, Ok, Err}
use Rattle.flume_model.specs.declared.step.Kind.{Kind}
use Rattle.flume_model.specs.declared.step.Step.{Step}
use Rattle.flume_model.specs.declared.step.Step.TheVariants.{TrySend, TryRecv, Drain}
use Rattle.flume_model.specs.declared.step.Reply.{Reply}
use Rattle.flume_model.specs.declared.step.Reply.TheVariants.{Drained, NoMemory}
use Rattle.flume_core.specs.declared.error.SendTimeoutError.{SendTimeoutError}
use Rattle.flume_core.specs.declared.error.RecvTimeoutError.{RecvTimeoutError}
use Rattle.flume_calls.specs.declared.calls.send.SendNext.{SendNext}
use Rattle.flume_calls.specs.declared.calls.send.SendNext.TheVariants as send
use Rattle.flume_calls.specs.declared.calls.receive.RecvNext.{RecvNext}
use Rattle.flume_calls.specs.declared.calls.receive.RecvNext.TheVariants as receive
use Rattle.flume_calls.specs.SendTurns.{after_try_send}
use Rattle.flume_calls.specs.ReceiveTurns.{after_try_recv}
use Rattle.flume_party.specs.Parties.{PartyState, and_made}
use Rattle.flume_actions.specs.Actions.{Action}
use Rattle.flume_actions.specs.SendCalls.{IsSend, IsPolledSend}
use Rattle.flume_actions.specs.ReceiveCalls.{IsReceive, IsPolledReceive}

module _ {T : Type 0} where
  -- what a send with this result sent
  abbrev pub sent_by : {E : Type 0} → T → Result (Unit {0}) E → List T
  sent_by message (Ok sent) = message ∷ []
  sent_by message (Err error) = []

  -- what a try to send with this answer sent
  abbrev pub sent_by_try : T → SendNext T → List T
  sent_by_try message (send.Done result) = sent_by message result
  sent_by_try message other = []

  -- what a receive with this result got
  abbrev pub got_by : {E : Type 0} → Result T E → List T
  got_by (Ok message) = message ∷ []
  got_by (Err error) = []

  -- what a drain with this result got
  abbrev pub drained_by : {E : Type 0} → Result (List T) E → List T
  drained_by (Ok messages) = messages
  drained_by (Err error) = []

  -- what a try to receive with this answer got
  abbrev pub got_by_try : RecvNext T → List T
  got_by_try (receive.Done result) = got_by result
  got_by_try other = []

module _ {T A : Type 0} where
  -- the actions are one call's, which sent these messages and got those
  pub data IsCall : (actions : List (Action T A)) (sent got : List T) → Type 0 where
    Sends : {message : T} {made : List (Action T A)} {result : Result (Unit {0}) (SendTimeoutError T)}
        → IsSend message made result → IsCall made (sent_by message result) []
    TriesToSend : {message : T} {reply : Reply T A} (next : SendNext T) → after_try_send reply next
        → IsCall ((TrySend message, reply) ∷ []) (sent_by_try message next) []
    PollsToSend : {message : T} {made : List (Action T A)}
        {result : Result (Unit {0}) (SendTimeoutError T)}
        → IsPolledSend message made result → IsCall made (sent_by message result) []
    Receives : {made : List (Action T A)} {result : Result T RecvTimeoutError}
        → IsReceive made result → IsCall made [] (got_by result)
    TriesToReceive : {reply : Reply T A} (next : RecvNext T) → after_try_recv reply next
        → IsCall ((TryRecv, reply) ∷ []) [] (got_by_try next)
    PollsToReceive : {kind : Kind} {made : List (Action T A)} {result : Result T RecvTimeoutError}
        → IsPolledReceive kind made result → IsCall made [] (got_by result)
    Drains : {messages : Vec T A} → IsCall ((Drain, Drained messages) ∷ []) [] messages.items
    DrainsNone : {back : Option T} → IsCall ((Drain, NoMemory back) ∷ []) [] []

  -- the actions are whole calls, one after the other, which sent these messages and got those
  pub data AreCalls : (actions : List (Action T A)) (sent got : List T) → Type 0 where
    NoCalls : AreCalls [] [] []
    AndCall : {before call : List (Action T A)} {sent sent' got got' : List T}
        → AreCalls before sent got → IsCall call sent' got'
        → AreCalls (before ++ call) (sent ++ sent') (got ++ got')

  -- the party made one call, which sent these messages and got those
  pub record HasCalled (old new : PartyState (Action T A)) (sent got : List T) : Type 0 where
    pub actions : List (Action T A)
    pub call : IsCall actions sent got
    pub made : new ≡ and_made old actions

  -- the party made one send of the message, with this result
  pub record HasSent (old : PartyState (Action T A)) (message : T) (new : PartyState (Action T A))
      (result : Result (Unit {0}) (SendTimeoutError T)) : Type 0 where
    pub actions : List (Action T A)
    pub send : IsSend message actions result
    pub made : new ≡ and_made old actions

  -- the party made one receive, with this result
  pub record HasReceived (old new : PartyState (Action T A)) (result : Result T RecvTimeoutError)
      : Type 0 where
    pub actions : List (Action T A)
    pub receive : IsReceive actions result
    pub made : new ≡ and_made old actions

  -- the party made this one step, and the table has the answer to its reply
  pub record HasStepped {N : Type 0} (step : Step T) (table : Reply T A → N → Type 0)
      (old : PartyState (Action T A)) (answer : N) (new : PartyState (Action T A)) : Type 0 where
    pub reply : Reply T A
    pub answered : table reply answer
    pub made : new ≡ and_made old ((step, reply) ∷ [])
