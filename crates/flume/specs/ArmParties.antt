-- The turns of a selector's arms, and their withdrawals, by what a keeper says of the arm's party.
use Rattle.std.specs.Prelude.{◌≡◌, ◌⊎◌, ℕ, Bool, false, true, List, Option, None, Result}
use Rattle.std.specs.Result.{result_ok}
use Rattle.flume_model.specs.declared.step.Kind.TheVariants.{Arm}
use Rattle.flume_model.specs.declared.step.Step.{Step}
use Rattle.flume_model.specs.declared.step.Step.TheVariants.{Send, Recv, TrySend, TryRecv}
use Rattle.flume_model.specs.declared.step.Reply.{Reply}
use Rattle.flume_core.specs.declared.error.SendTimeoutError.{SendTimeoutError}
use Rattle.flume_core.specs.declared.error.RecvTimeoutError.{RecvTimeoutError}
use Rattle.flume_calls.specs.declared.calls.send.SendNext.{SendNext}
use Rattle.flume_calls.specs.declared.calls.receive.RecvNext.{RecvNext}
use Rattle.flume_calls.specs.declared.gates.select.ArmNext.{ArmNext}
use Rattle.flume_calls.specs.SendTurns.{after_send, after_parked_send, step_of_parked_send}
use Rattle.flume_calls.specs.SendTurns.{after_try_send}
use Rattle.flume_calls.specs.SendTurns as send_turn
use Rattle.flume_calls.specs.ReceiveTurns.{after_recv, after_parked_receive, step_of_parked_receive}
use Rattle.flume_calls.specs.ReceiveTurns.{after_try_recv}
use Rattle.flume_calls.specs.ReceiveTurns as receive_turn
use Rattle.flume_actions.specs.Actions.{Action}
use Rattle.flume.specs.PartySteps.{DidStep}
use Rattle.flume.specs.ArmStates.{IsAfterSend, IsAfterReceive}
use Rattle.flume.specs.declared.select.send.SendState.{SendState}
use Rattle.flume.specs.declared.select.send.SendState.TheVariants as sending
use Rattle.flume.specs.declared.select.receive.ReceiveState.{ReceiveState}
use Rattle.flume.specs.declared.select.receive.ReceiveState.TheVariants as receiving

-- `did` is what the keeper says: that a party made these steps, with these replies
module _ {P T A : Type 0} (did : P → List (Action T A) → P → Type 0) where
  -- the party made one step, which led its send arm to this, and to this state
  abbrev pub MakesSendOf : Step T → (Reply T A → SendNext T → Type 0) → (SendNext T → Type 0)
      → P → ArmNext → SendState T → P → Type 0
  MakesSendOf step table answers old answer state new = (turn : SendNext T)
      × DidStep did step table old turn new × answers turn × IsAfterSend turn answer state

  -- a send arm starts, or there was no memory for that, and the party did nothing
  abbrev pub StartsSendOf : T → P → ArmNext → SendState T → P → Type 0
  StartsSendOf message old answer state new =
      MakesSendOf (Send message) after_send (send_turn.IsParkingAnswer message) old answer state new
      ⊎ ((state ≡ sending.Finished) × (new ≡ old))

  -- a send arm is tried, and isn't parked
  abbrev pub TriesSendOf : T → P → ArmNext → SendState T → P → Type 0
  TriesSendOf message =
      MakesSendOf (TrySend message) after_try_send (send_turn.IsFirstAnswer message)

  -- the first turn of a send arm, by whether it may park
  abbrev pub BeginsSendOf : Bool → T → P → ArmNext → SendState T → P → Type 0
  BeginsSendOf true message old answer state new = StartsSendOf message old answer state new
  BeginsSendOf false message old answer state new = TriesSendOf message old answer state new

  -- a parked send arm is polled
  abbrev pub PollsSendOf : ℕ → P → ArmNext → SendState T → P → Type 0
  PollsSendOf ticket = MakesSendOf (step_of_parked_send ticket false)
      (after_parked_send ticket false) (send_turn.IsParkedAnswer ticket false)

  -- a turn of a send arm, by whether it may park: one that has ended does nothing
  abbrev pub SendTurnOf : Bool → SendState T → P → ArmNext → SendState T → P → Type 0
  SendTurnOf parks (sending.Unstarted message) old answer state new =
      BeginsSendOf parks message old answer state new
  SendTurnOf parks (sending.Parked ticket) old answer state new =
      PollsSendOf ticket old answer state new
  SendTurnOf parks ended old answer state new = (state ≡ ended) × (new ≡ old)

  -- a send arm is withdrawn: one that isn't parked does nothing
  abbrev pub WithdrawsSendOf : SendState T → P → SendState T → P → Type 0
  WithdrawsSendOf (sending.Parked ticket) old state new =
      (result : Result (Unit {0}) (SendTimeoutError T)) × (state ≡ sending.Finished)
      × DidStep did (step_of_parked_send ticket true) (after_parked_send ticket true) old
      (SendNext.Done result) new
  WithdrawsSendOf same old state new = (state ≡ same) × (new ≡ old)

  -- the party made one step, which led its receive arm to this, and to this state
  abbrev pub MakesReceiveOf : Step T → (Reply T A → RecvNext T → Type 0) → (RecvNext T → Type 0)
      → P → ArmNext → ReceiveState T → P → Type 0
  MakesReceiveOf step table answers old answer state new = (turn : RecvNext T)
      × DidStep did step table old turn new × answers turn × IsAfterReceive turn answer state

  -- a receive arm starts, or there was no memory for that, and the party did nothing
  abbrev pub StartsReceiveOf : P → ArmNext → ReceiveState T → P → Type 0
  StartsReceiveOf old answer state new =
      MakesReceiveOf (Recv Arm) after_recv receive_turn.IsParkingAnswer old answer state new
      ⊎ ((state ≡ receiving.Finished) × (new ≡ old))

  -- a receive arm is tried, and isn't parked
  abbrev pub TriesReceiveOf : P → ArmNext → ReceiveState T → P → Type 0
  TriesReceiveOf = MakesReceiveOf TryRecv after_try_recv receive_turn.IsFirstAnswer

  -- the first turn of a receive arm, by whether it may park
  abbrev pub BeginsReceiveOf : Bool → P → ArmNext → ReceiveState T → P → Type 0
  BeginsReceiveOf true old answer state new = StartsReceiveOf old answer state new
  BeginsReceiveOf false old answer state new = TriesReceiveOf old answer state new

  -- a parked receive arm is polled
  abbrev pub PollsReceiveOf : ℕ → P → ArmNext → ReceiveState T → P → Type 0
  PollsReceiveOf ticket = MakesReceiveOf (step_of_parked_receive ticket false)
      (after_parked_receive ticket false) (receive_turn.IsParkedAnswer ticket false)

  -- a turn of a receive arm, by whether it may park: one that has ended does nothing
  abbrev pub ReceiveTurnOf : Bool → ReceiveState T → P → ArmNext → ReceiveState T → P → Type 0
  ReceiveTurnOf parks receiving.Unstarted old answer state new =
      BeginsReceiveOf parks old answer state new
  ReceiveTurnOf parks (receiving.Parked ticket) old answer state new =
      PollsReceiveOf ticket old answer state new
  ReceiveTurnOf parks ended old answer state new = (state ≡ ended) × (new ≡ old)

  -- a receive arm is withdrawn, with the message that it got: one that isn't parked does nothing
  abbrev pub WithdrawsReceiveOf : ReceiveState T → P → Option T → ReceiveState T → P → Type 0
  WithdrawsReceiveOf (receiving.Parked ticket) old message state new =
      (result : Result T RecvTimeoutError) × (message ≡ result_ok result)
      × (state ≡ receiving.Finished) × DidStep did (step_of_parked_receive ticket true)
      (after_parked_receive ticket true) old (RecvNext.Done result) new
  WithdrawsReceiveOf same old message state new =
      (message ≡ None) × (state ≡ same) × (new ≡ old)
