-- What a party's send of many messages sent.
use Rattle.std.specs.Prelude.{◌≡◌, Result, Ok, Err, List, [], ◌++◌, length}
use Rattle.flume_core.specs.declared.error.TrySendError.{TrySendError}
use Rattle.flume_core.specs.declared.error.TrySendError.TheVariants as try_send
use Rattle.flume_core.specs.declared.error.SendTimeoutError.{SendTimeoutError}
use Rattle.flume_core.specs.declared.error.SendTimeoutError.TheVariants as send_timeout
use Rattle.flume_party.specs.Parties.{PartyState, and_made}
use Rattle.flume_actions.specs.Actions.{Action}
use Rattle.flume_actions.specs.Callers.{HasMadeCalls}

module _ {T A : Type 0} where
  -- what a trace's keeper says of a party: that it made these actions
  abbrev pub has_added : PartyState (Action T A) → List (Action T A) → PartyState (Action T A)
      → Type 0
  has_added old actions new = new ≡ and_made old actions

  -- The party made whole calls, one after the other, which sent the first of these messages, in
  -- order. The others weren't sent, and as many are left.
  pub record HasSentFirst (old : PartyState (Action T A)) (messages : List T)
      (new : PartyState (Action T A)) (left : List T) : Type 0 where
    pub sent : List T
    pub unsent : List T
    pub all : messages ≡ sent ++ unsent
    pub calls : HasMadeCalls old new sent []
    pub number : length left ≡ length unsent

  -- by the result: all messages were sent, or the error has as many as weren't
  abbrev pub HasSentMany : PartyState (Action T A) → List T → PartyState (Action T A)
      → Result (Unit {0}) (SendTimeoutError (List T)) → Type 0
  HasSentMany old messages new (Ok sent) = HasMadeCalls old new messages []
  HasSentMany old messages new (Err (send_timeout.Timeout left)) =
      HasSentFirst old messages new left
  HasSentMany old messages new (Err (send_timeout.Disconnected left)) =
      HasSentFirst old messages new left
  HasSentMany old messages new (Err (send_timeout.NoMemory left)) =
      HasSentFirst old messages new left

  -- the same of a call that doesn't wait
  abbrev pub HasTriedMany : PartyState (Action T A) → List T → PartyState (Action T A)
      → Result (Unit {0}) (TrySendError (List T)) → Type 0
  HasTriedMany old messages new (Ok sent) = HasMadeCalls old new messages []
  HasTriedMany old messages new (Err (try_send.Full left)) = HasSentFirst old messages new left
  HasTriedMany old messages new (Err (try_send.Disconnected left)) =
      HasSentFirst old messages new left
  HasTriedMany old messages new (Err (try_send.NoMemory left)) = HasSentFirst old messages new left
