-- Sends of many messages, as their callers see them.
use Rattle.std.specs.Prelude.{◌≡◌, ◌≢◌, ◌⊎◌, Option, Some, None, Result, Ok, Err, List, [], ◌∷◌}
use Rattle.std.specs.Prelude.{◌++◌}
use Rattle.flume_core.specs.declared.error.SendError.{SendError}
use Rattle.flume_core.specs.declared.error.SendError.TheVariants.{Disconnected, NoMemory}
use Rattle.flume_calls.specs.declared.polled.send.PolledSend.{PolledSend}
use Rattle.flume_calls.specs.declared.polled.send.PolledSend.TheVariants.{Unsent, Parked, Finished}

module _ {T : Type 0} where
  -- what is left of these messages after one of them waited: one that came back, and all behind it
  pub record IsRestAfterWait (messages left : List T) : Type 0 where
    pub sent : List T
    pub first : T
    pub back : T
    pub behind : List T
    pub left_is : left ≡ back ∷ behind
    pub messages_are : messages ≡ sent ++ first ∷ behind

  -- the last of these messages are left
  abbrev pub IsEndOf : List T → List T → Type 0
  IsEndOf messages left = (sent : List T) × (messages ≡ sent ++ left)

  -- what a poll leaves of these messages: those behind the one that is blocked or comes back
  abbrev pub LeavesList : List T → List T → Option (Result (Unit {0}) (SendError T)) → Type 0
  LeavesList messages left None = (blocked : T) × IsEndOf messages (blocked ∷ left)
  LeavesList messages left (Some (Ok sent)) =
      (left ≡ []) ⊎ ((first : T) × IsEndOf messages (first ∷ left))
  LeavesList messages left (Some (Err (Disconnected back))) = IsEndOf messages (back ∷ left)
  LeavesList messages left (Some (Err (NoMemory back))) = IsEndOf messages (back ∷ left)

  -- what a poll of this send and those behind it leaves; only the channel knows a parked message
  abbrev pub PollLeaves : PolledSend T → List T → List T
      → Option (Result (Unit {0}) (SendError T)) → Type 0
  PollLeaves (Unsent message) messages left answer = LeavesList (message ∷ messages) left answer
  PollLeaves (Parked ticket) messages left answer =
      ((left ≡ messages) × (answer ≢ Some (Ok tt))) ⊎ LeavesList messages left answer
  PollLeaves Finished messages left answer = LeavesList messages left answer
