-- Futures of ends with a trace: what their party did since they began.
use Rattle.std.specs.Prelude.{◌≡◌, ℕ, List, [], ◌∷◌, Option, Some, None, Result}
use Rattle.flume_core.specs.declared.error.SendTimeoutError.{SendTimeoutError}
use Rattle.flume_core.specs.declared.error.RecvError.{RecvError}
use Rattle.flume_core.specs.declared.error.RecvTimeoutError.{RecvTimeoutError}
use Rattle.flume_calls.specs.declared.polled.send.PolledSend.{PolledSend}
use Rattle.flume_calls.specs.declared.polled.send.PolledSend.TheVariants.{Unsent, Parked, Finished}
use Rattle.flume.specs.declared.polled.traced_sink.Sending.{Sending}
use Rattle.flume_party.specs.Parties.{PartyState, and_made}
use Rattle.flume_actions.specs.Actions.{Action}
use Rattle.flume_actions.specs.SendCalls.{IsBlockedPolls}
use Rattle.flume_actions.specs.ReceiveCalls.{IsParkedPolls}
use Rattle.flume_actions.specs.Calls.{sent_by}
use Rattle.flume_actions.specs.Callers.{HasMadeCalls}
use Rattle.flume.specs.EndedCalls.{HasEndedReceive, HasEndedSend, GivesReceive}

-- the message that came, if one did
abbrev pub got_if : {T : Type 0} → Option T → List T
got_if (Some message) = message ∷ []
got_if None = []

module _ {T A : Type 0} (start : PartyState (Action T A)) where
  -- A receive, by the ticket under which it is parked: however its polls end, the party has made a
  -- receive with that result, and got nothing before.
  abbrev pub CanReceive : Option ℕ → PartyState (Action T A) → Type 0
  CanReceive None now = HasMadeCalls start now [] []
  CanReceive (Some ticket) now =
      (later : List (Action T A)) (result : Result T RecvTimeoutError)
      (end : PartyState (Action T A)) → IsParkedPolls ticket later result → end ≡ and_made now later
      → HasEndedReceive start end result

  -- a receive after a poll with this answer, or that waits on
  abbrev pub ReceivesOn : Option (Result T RecvError) → Option ℕ → PartyState (Action T A) → Type 0
  ReceivesOn (Some answer) call now = GivesReceive start now answer
  ReceivesOn None call now = CanReceive call now

  -- as CanReceive, of a send of this message
  abbrev pub CanSend : T → PolledSend T → PartyState (Action T A) → Type 0
  CanSend message (Unsent offered) now = (offered ≡ message) × HasMadeCalls start now [] []
  CanSend message (Parked ticket) now =
      (later : List (Action T A)) (result : Result (Unit {0}) (SendTimeoutError T))
      (end : PartyState (Action T A)) → IsBlockedPolls ticket later result
      → end ≡ and_made now later → HasEndedSend start message end result
  CanSend message Finished now = ⊥

module _ {T : Type 0} where
  -- what a sink sent, by the answer to its poll: the message that it had, if it had one
  abbrev pub sent_of : {E : Type 0} → Option (Sending T) → Result (Unit {0}) E → List T
  sent_of None answer = []
  sent_of (Some sending) answer = sent_by sending.message.value answer

  -- as CanSend, of a sink, which has a message to send or none
  abbrev pub CanSink : {A : Type 0} → PartyState (Action T A) → Option (Sending T)
      → PartyState (Action T A) → Type 0
  CanSink start None now = HasMadeCalls start now [] []
  CanSink start (Some sending) now = CanSend start sending.message.value sending.send now
