-- A call that waits as long as it takes is never too late.
use Rattle.std.proofs.Common.{◌≡◌, ◌≢◌, ℕ, Bool, Result, Err, refl, ◌∙◌, subst}
use Rattle.flume_core.specs.declared.error.SendTimeoutError.{SendTimeoutError}
use Rattle.flume_core.specs.declared.error.SendTimeoutError.TheVariants.{Timeout as SendTimeout}
use Rattle.flume_core.specs.declared.error.RecvTimeoutError.{RecvTimeoutError}
use Rattle.flume_core.specs.declared.error.RecvTimeoutError.TheVariants.{Timeout as RecvTimeout}
use Rattle.flume_calls.specs.declared.calls.send.SendNext.TheVariants.{Done as SendDone}
use Rattle.flume_calls.specs.declared.calls.receive.RecvNext.{RecvNext}
use Rattle.flume_calls.specs.declared.calls.receive.RecvNext.TheVariants.{Done as RecvDone}
use Rattle.flume_calls.proofs.GateLemmas.{seen_receive}
use Rattle.flume_deadline.specs.declared.Deadline.{Deadline}
use Rattle.flume_deadline.specs.declared.Deadline.TheVariants.{Never}
use Rattle.flume_calls.specs.SendTurns as send_turn
use Rattle.flume_calls.specs.SendGates as send
use Rattle.flume_calls.specs.ReceiveTurns as receive_turn
use Rattle.flume_calls.specs.ReceiveGates as receive
use Rattle.flume.specs.GateSteps.{MakesWaiter, WaitsUpTo, SendFirst, SendPark, SendAgain, ReceiveFirst, ReceivePark, ReceiveAgain}

module _ {T A : Type 0} where
  -- a parked send with no deadline is never too late
  parked_send : {old new : Deadline} {ticket : ℕ} {result : Result (Unit {0}) (SendTimeoutError T)}
      → send.ParkedSend (SendAgain A) WaitsUpTo old ticket new result → old ≡ Never → (back : T) → result ≢ Err (SendTimeout back)
  parked_send {ticket = ticket} (send.Asked a) never back late = subst (λ r. send_turn.IsPollAnswer ticket (SendDone r)) late a.answers
  parked_send (send.Expired a w b) never back late = w.reached refl (a.same ∙ never)
  parked_send (send.Waited a w rest) never back late = parked_send rest (w.same ∙ a.same ∙ never) back late

  -- a whole send with no deadline is never too late
  pub send_in_time : {old new : Deadline} {message : T} {result : Result (Unit {0}) (SendTimeoutError T)}
      → send.WholeSend (SendFirst A) MakesWaiter (SendPark A) (SendAgain A) WaitsUpTo old message new result → old ≡ Never
      → (back : T) → result ≢ Err (SendTimeout back)
  send_in_time {message = message} (send.AtFirst f) never back late = subst (λ r. send_turn.IsFirstAnswer message (SendDone r)) late
      f.answers
  send_in_time (send.NoWaiter f a e) never back late = absurd (let none : ⊥ = cc in none)
  send_in_time {message = message} (send.AtPark f a p) never back late =
      subst (λ r. send_turn.IsParkingAnswer message (SendDone r)) late p.answers
  send_in_time (send.Parked f a p rest) never back late = parked_send rest (p.same ∙ a ∙ f.same ∙ never) back late

module _ {T : Type 0} where
  -- a receive's first turn, by its deadline
  abbrev Firsts : Deadline → Deadline → RecvNext T → Type 0
  Firsts old new next = (new ≡ old) × receive_turn.IsFirstAnswer next

  -- the turn that may park it
  abbrev Parks : Deadline → Deadline → RecvNext T → Type 0
  Parks old new next = (new ≡ old) × receive_turn.IsParkingAnswer next

  -- a turn of the parked receive
  abbrev Agains : Deadline → ℕ → Bool → Deadline → RecvNext T → Type 0
  Agains old ticket last new next = (new ≡ old) × receive_turn.IsParkedAnswer ticket last next × receive_turn.HadMemory next

  -- a parked receive with no deadline is never too late
  parked_receive : {old new : Deadline} {ticket : ℕ} {result : Result T RecvTimeoutError}
      → receive.ParkedReceive Agains WaitsUpTo old ticket new result → old ≡ Never → result ≢ Err RecvTimeout
  parked_receive {ticket = ticket} (receive.Asked a) never late = subst (λ r. receive_turn.IsPollAnswer ticket (RecvDone r)) late a.1
  parked_receive (receive.Withdrawn a b e) never late = absurd a.2
  parked_receive (receive.Expired a w b) never late = w.reached refl (a.0 ∙ never)
  parked_receive (receive.Waited a w rest) never late = parked_receive rest (w.same ∙ a.0 ∙ never) late

  -- a whole receive with no deadline is never too late
  pub never_late : {old new : Deadline} {result : Result T RecvTimeoutError}
      → receive.WholeReceive Firsts MakesWaiter Parks Agains WaitsUpTo old new result → old ≡ Never → result ≢ Err RecvTimeout
  never_late (receive.AtFirst f) never late = subst (λ r. receive_turn.IsFirstAnswer (RecvDone r)) late f.1
  never_late (receive.NoWaiter f a e) never late = absurd (let none : ⊥ = cc in none)
  never_late (receive.AtPark f a p) never late = subst (λ r. receive_turn.IsParkingAnswer (RecvDone r)) late p.1
  never_late (receive.Parked f a p rest) never late = parked_receive rest (p.0 ∙ a ∙ f.0 ∙ never) late

module _ {T A : Type 0} where
  -- the same of a receive of one message
  pub receive_in_time : {old new : Deadline} {result : Result T RecvTimeoutError}
      → receive.WholeReceive (ReceiveFirst A) MakesWaiter (ReceivePark A) (ReceiveAgain A) WaitsUpTo old new result → old ≡ Never
      → result ≢ Err RecvTimeout
  receive_in_time run = never_late (seen_receive (λ deadline. deadline) (λ _ _ _ _ _ turn. (turn.same, turn.answers, turn.not_refused))
      (λ _ _ _ wait. wait) (λ _ _ _ turn. (turn.same, turn.answers)) (λ _ _ _ made. made) (λ _ _ _ turn. (turn.same, turn.answers)) run)
