-- The turns of a selector's arms, and their withdrawals.
use Rattle.std.specs.Prelude.{◌≡◌, ◌⊎◌, ℕ, Bool, false, true}
use Rattle.flume_model.specs.declared.step.Kind.TheVariants.{Arm}
use Rattle.flume_model.specs.declared.step.Step.{Step}
use Rattle.flume_model.specs.declared.step.Step.TheVariants.{Send, Recv, TrySend, TryRecv}
use Rattle.flume_model.specs.declared.step.Reply.{Reply}
use Rattle.flume_calls.specs.declared.calls.send.SendNext.{SendNext}
use Rattle.flume_calls.specs.declared.calls.receive.RecvNext.{RecvNext}
use Rattle.flume_calls.specs.declared.gates.select.ArmNext.{ArmNext}
use Rattle.flume_calls.specs.declared.gates.select.ArmNext.TheVariants as next
use Rattle.flume_calls.specs.SendTurns.{after_send, after_parked_send, step_of_parked_send}
use Rattle.flume_calls.specs.SendTurns.{after_try_send}
use Rattle.flume_calls.specs.SendTurns as send_turn
use Rattle.flume_calls.specs.ReceiveTurns.{after_recv, after_parked_receive, step_of_parked_receive}
use Rattle.flume_calls.specs.ReceiveTurns.{after_try_recv}
use Rattle.flume_calls.specs.ReceiveTurns as receive_turn
use Rattle.flume.specs.LockedTurns.{HasMade}
use Rattle.flume.specs.ArmStates.{IsAfterSend, IsAfterReceive}
use Rattle.flume.specs.declared.select.send.SendState.{SendState}
use Rattle.flume.specs.declared.select.send.SendState.TheVariants as sending
use Rattle.flume.specs.declared.select.receive.ReceiveState.{ReceiveState}
use Rattle.flume.specs.declared.select.receive.ReceiveState.TheVariants as receiving

-- a parked send arm took its message back, by one step
abbrev pub HasWithdrawnSend : (T A : Type 0) → ℕ → Type 0
HasWithdrawnSend T A ticket = (turn : SendNext T)
    × HasMade (step_of_parked_send ticket true) (after_parked_send {A = A} ticket true) turn

-- a parked receive arm left, by one step
abbrev pub HasWithdrawnReceive : (T A : Type 0) → ℕ → Type 0
HasWithdrawnReceive T A ticket = (turn : RecvNext T)
    × HasMade (step_of_parked_receive ticket true) (after_parked_receive {A = A} ticket true) turn

module _ {T : Type 0} (A : Type 0) where
  -- one step of some channel was made, and led a send arm to this, and to this state
  abbrev pub MakesSend : Step T → (Reply T A → SendNext T → Type 0) → (SendNext T → Type 0)
      → ArmNext → SendState T → Type 0
  MakesSend step table answers answer new =
      (turn : SendNext T) × HasMade step table turn × answers turn × IsAfterSend turn answer new

  -- a send arm starts, or there was no memory for that
  abbrev pub StartsSend : T → ArmNext → SendState T → Type 0
  StartsSend message answer new =
      MakesSend (Send message) after_send (send_turn.IsParkingAnswer message) answer new
      ⊎ ((answer ≡ next.NoMemory) × (new ≡ sending.Finished))

  -- a send arm is tried, and isn't parked
  abbrev pub TriesSend : T → ArmNext → SendState T → Type 0
  TriesSend message =
      MakesSend (TrySend message) after_try_send (send_turn.IsFirstAnswer message)

  -- the first turn of a send arm, by whether it may park
  abbrev pub BeginsSend : Bool → T → ArmNext → SendState T → Type 0
  BeginsSend true message answer new = StartsSend message answer new
  BeginsSend false message answer new = TriesSend message answer new

  -- a parked send arm is polled
  abbrev pub PollsSend : ℕ → ArmNext → SendState T → Type 0
  PollsSend ticket = MakesSend (step_of_parked_send ticket false) (after_parked_send ticket false)
      (send_turn.IsParkedAnswer ticket false)

  -- a turn of a send arm, by whether it may park
  abbrev pub SendTurn : Bool → SendState T → ArmNext → SendState T → Type 0
  SendTurn parks (sending.Unstarted message) answer new = BeginsSend parks message answer new
  SendTurn parks (sending.Parked ticket) answer new = PollsSend ticket answer new
  SendTurn parks (sending.Completed result) answer new =
      (answer ≡ next.Completed) × (new ≡ sending.Completed result)
  SendTurn parks sending.Finished answer new =
      (answer ≡ next.NoMemory) × (new ≡ sending.Finished)

  -- a withdrawal of a send arm
  abbrev pub WithdrawsSend : SendState T → SendState T → Type 0
  WithdrawsSend (sending.Parked ticket) new =
      (new ≡ sending.Finished) × HasWithdrawnSend T A ticket
  WithdrawsSend old new = new ≡ old

  -- one step of some channel was made, and led a receive arm to this, and to this state
  abbrev pub MakesReceive : Step T → (Reply T A → RecvNext T → Type 0) → (RecvNext T → Type 0)
      → ArmNext → ReceiveState T → Type 0
  MakesReceive step table answers answer new =
      (turn : RecvNext T) × HasMade step table turn × answers turn × IsAfterReceive turn answer new

  -- a receive arm starts, or there was no memory for that
  abbrev pub StartsReceive : ArmNext → ReceiveState T → Type 0
  StartsReceive answer new =
      MakesReceive (Recv Arm) after_recv receive_turn.IsParkingAnswer answer new
      ⊎ ((answer ≡ next.NoMemory) × (new ≡ receiving.Finished))

  -- a receive arm is tried, and isn't parked
  abbrev pub TriesReceive : ArmNext → ReceiveState T → Type 0
  TriesReceive = MakesReceive TryRecv after_try_recv receive_turn.IsFirstAnswer

  -- the first turn of a receive arm, by whether it may park
  abbrev pub BeginsReceive : Bool → ArmNext → ReceiveState T → Type 0
  BeginsReceive true answer new = StartsReceive answer new
  BeginsReceive false answer new = TriesReceive answer new

  -- a parked receive arm is polled
  abbrev pub PollsReceive : ℕ → ArmNext → ReceiveState T → Type 0
  PollsReceive ticket = MakesReceive (step_of_parked_receive ticket false)
      (after_parked_receive ticket false) (receive_turn.IsParkedAnswer ticket false)

  -- a turn of a receive arm, by whether it may park
  abbrev pub ReceiveTurn : Bool → ReceiveState T → ArmNext → ReceiveState T → Type 0
  ReceiveTurn parks receiving.Unstarted answer new = BeginsReceive parks answer new
  ReceiveTurn parks (receiving.Parked ticket) answer new = PollsReceive ticket answer new
  ReceiveTurn parks (receiving.Completed message) answer new =
      (answer ≡ next.Completed) × (new ≡ receiving.Completed message)
  ReceiveTurn parks receiving.Finished answer new =
      (answer ≡ next.NoMemory) × (new ≡ receiving.Finished)

  -- a withdrawal of a receive arm
  abbrev pub WithdrawsReceive : ReceiveState T → ReceiveState T → Type 0
  WithdrawsReceive (receiving.Parked ticket) new =
      (new ≡ receiving.Finished) × HasWithdrawnReceive T A ticket
  WithdrawsReceive old new = new ≡ old
