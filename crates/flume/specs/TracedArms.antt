-- The arms of ends with a trace: what their party did since they were added to a selector.
use Rattle.std.specs.Prelude.{◌≡◌, ℕ, List, [], ◌∷◌, ◌++◌, Some, None, Result, Ok, Err}
use Rattle.flume_model.specs.declared.step.Kind.TheVariants.{Arm}
use Rattle.flume_model.specs.declared.step.Step.TheVariants.{Recv}
use Rattle.flume_model.specs.declared.step.Reply.TheVariants.{Parked}
use Rattle.flume_core.specs.declared.error.SendError.{SendError}
use Rattle.flume_core.specs.declared.error.RecvError.{RecvError}
use Rattle.flume_core.specs.declared.error.SendTimeoutError.{SendTimeoutError}
use Rattle.flume_core.specs.declared.error.SendTimeoutError.TheVariants as send_timeout
use Rattle.flume_core.specs.declared.error.RecvTimeoutError.TheVariants as receive_timeout
use Rattle.flume_calls.specs.declared.polled.send.PolledSend.TheVariants as polled
use Rattle.flume_party.specs.Parties.{PartyState}
use Rattle.flume_actions.specs.Actions.{Action}
use Rattle.flume_actions.specs.Calls.{sent_by}
use Rattle.flume_actions.specs.Callers.{HasMadeCalls}
use Rattle.flume.specs.ArmStates.{CompletesSend, CompletesReceive}
use Rattle.flume.specs.EndedCalls.{HasEndedReceive, HasEndedSend, GivesReceive, GivesSend}
use Rattle.flume.specs.TracedPolls.{CanSend, CanReceive}
use Rattle.flume.specs.declared.select.send.SendState.{SendState}
use Rattle.flume.specs.declared.select.send.SendState.TheVariants as sending
use Rattle.flume.specs.declared.select.receive.ReceiveState.{ReceiveState}
use Rattle.flume.specs.declared.select.receive.ReceiveState.TheVariants as receiving

-- what a contract sees of an arm that receives, with its party, now and at the start
pub record ReceiveArmValue (T F P : Type 0) : Type 0 where
  pub channel : ℕ
  pub state : ReceiveState T
  pub mapper : F
  pub party : P
  pub start : P

-- the same of one that sends this message
pub record SendArmValue (T F P : Type 0) : Type 0 where
  pub channel : ℕ
  pub state : SendState T
  pub mapper : F
  pub message : T
  pub party : P
  pub start : P

-- the arm has no message, which its mapper would have to get
abbrev pub HasNoMessage : {T : Type 0} → ReceiveState T → Type 0
HasNoMessage (receiving.Completed (Some message)) = ⊥
HasNoMessage _ = Unit {0}

module _ {T A : Type 0} where
  -- the party parked under this ticket, as an arm
  pub record HasParkedArm (ticket : ℕ) (actions : List (Action T A)) : Type 0 where
    pub before : List (Action T A)
    pub later : List (Action T A)
    pub parked : actions ≡ before ++ (Recv Arm, Parked ticket) ∷ later

module _ {T A : Type 0} (start : PartyState (Action T A)) where
  -- A receive arm in this state: since the start, the party made a receive that ended with what the
  -- arm completed with, or whole calls that got nothing; of a parked one, see CanReceive.
  abbrev pub CanReceiveArm : ReceiveState T → PartyState (Action T A) → Type 0
  CanReceiveArm (receiving.Parked ticket) now =
      CanReceive start (Some ticket) now × HasParkedArm ticket now.actions
  CanReceiveArm (receiving.Completed (Some message)) now = HasEndedReceive start now (Ok message)
  CanReceiveArm (receiving.Completed None) now =
      HasEndedReceive start now (Err receive_timeout.Disconnected)
  CanReceiveArm _ now = HasMadeCalls start now [] []

  -- the party made whole calls since the start, which sent the message or nothing
  abbrev pub MaySend : T → PartyState (Action T A) → Type 0
  MaySend message now = (result : Result (Unit {0}) (SendTimeoutError T))
      × HasMadeCalls start now (sent_by message result) []

  -- a send arm of this message, in this state
  abbrev pub CanSendArm : T → SendState T → PartyState (Action T A) → Type 0
  CanSendArm message (sending.Unstarted offered) now =
      CanSend start message (polled.Unsent offered) now
  CanSendArm message (sending.Parked ticket) now =
      CanSend start message (polled.Parked ticket) now
  CanSendArm message (sending.Completed (Ok sent)) now = HasEndedSend start message now (Ok tt)
  CanSendArm message (sending.Completed (Err back)) now =
      HasEndedSend start message now (Err (send_timeout.Disconnected back))
  CanSendArm message sending.Finished now = MaySend message now

module _ {T A F V : Type 0} where
  -- A receive arm completed: the value is what its mapper answers to this result, and since the
  -- start its party made whole calls, of which the last one, a receive, ended with this result.
  pub record HasReceivedBy (post : F → Result T RecvError → V → Type 0) (mapper : F)
      (start : PartyState (Action T A)) (value : V) (now : PartyState (Action T A)) : Type 0 where
    pub result : Result T RecvError
    pub completed : CompletesReceive result
    pub mapped : post mapper result value
    pub gave : GivesReceive start now result

  -- the same of a send arm of this message
  pub record HasSentBy (post : F → Result (Unit {0}) (SendError T) → V → Type 0) (mapper : F)
      (start : PartyState (Action T A)) (message : T) (value : V) (now : PartyState (Action T A))
      : Type 0 where
    pub result : Result (Unit {0}) (SendError T)
    pub completed : CompletesSend result
    pub mapped : post mapper result value
    pub gave : GivesSend start message now result
