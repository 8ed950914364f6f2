-- A send that is polled: which step each poll makes, and what it answers.
use Rattle.std.specs.Prelude.{◌≡◌, ℕ, Bool, true, false, Option, Some, None, Result, Ok, Err}
use Rattle.std.specs.Prelude.{List, [], ◌∷◌}
use mathlib.Core.Path.{sym, subst}
use Rattle.flume_model.specs.declared.step.Step.{Step}
use Rattle.flume_model.specs.declared.step.Step.TheVariants.{TrySend, Send}
use Rattle.flume_model.specs.declared.step.Reply.{Reply}
use Rattle.flume_state.specs.State.{State}
use Rattle.flume_core.specs.Waiting.{FindsNoRoom, IsHeldBack}
use Rattle.flume_core.specs.declared.error.SendError.{SendError}
use Rattle.flume_core.specs.declared.error.SendError.TheVariants.{Disconnected, NoMemory}
use Rattle.flume_core.specs.declared.error.SendTimeoutError.TheVariants as timed
use Rattle.flume_calls.specs.declared.calls.send.SendNext.{SendNext}
use Rattle.flume_calls.specs.declared.calls.send.SendNext.TheVariants.{Done, NeedSignal, Park}
use Rattle.flume_calls.specs.declared.polled.send.PolledSend.{PolledSend}
use Rattle.flume_calls.specs.declared.polled.send.PolledSend.TheVariants.{Unsent, Parked, Finished}
use Rattle.flume_calls.specs.Turns.{Turned}
use Rattle.flume_calls.specs.Batches.{StepsBetween, NoSteps, IsBatch, with_table}
use Rattle.flume_calls.specs.SendTurns.{after_try_send, after_send, after_parked_send}
use Rattle.flume_calls.specs.SendTurns.{step_of_parked_send, IsFirstAnswer, IsParkingAnswer}
use Rattle.flume_calls.specs.SendTurns.{IsParkedAnswer}
use Rattle.flume_calls.specs.SendOutcomes.{FirstSendOutcome, ParkSendOutcome, AgainSendOutcome}

module _ {T : Type 0} where
  -- From what the turn led to, to the send then and the poll's answer. `NeedSignal` and `Timeout`
  -- come only if there was no memory for a signal.
  abbrev pub finishes_send : SendNext T → PolledSend T
      → Option (Result (Unit {0}) (SendError T)) → Type 0
  finishes_send (Done (Ok sent)) after answer = (after ≡ Finished) × (answer ≡ Some (Ok tt))
  finishes_send (Done (Err (timed.Disconnected back))) after answer =
      (after ≡ Finished) × (answer ≡ Some (Err (Disconnected back)))
  finishes_send (Done (Err (timed.NoMemory back))) after answer =
      (after ≡ Finished) × (answer ≡ Some (Err (NoMemory back)))
  finishes_send (Done (Err (timed.Timeout back))) after answer =
      (after ≡ Finished) × (answer ≡ Some (Err (NoMemory back)))
  finishes_send (NeedSignal back) after answer =
      (after ≡ Finished) × (answer ≡ Some (Err (NoMemory back)))
  finishes_send (Park ticket) after answer = (after ≡ Parked ticket) × (answer ≡ None)

module _ {T : Type 0} where
  -- the ticket of a parked send
  abbrev pub ticket_of : PolledSend T → Option ℕ
  ticket_of (Unsent message) = None
  ticket_of (Parked ticket) = Some ticket
  ticket_of Finished = None

module _ {T S : Type 0} where
  -- when a poll would wait
  abbrev pub send_waits : PolledSend T → State T S → Type 0
  send_waits (Unsent message) s = FindsNoRoom s
  send_waits (Parked ticket) s = IsHeldBack ticket s
  send_waits Finished s = ⊥

  -- one poll of a send, which is `after` then
  pub data SendPoll (A : Type 0) (send : PolledSend T) (signal : Option S) (old new : State T S)
      (after : PolledSend T) (answer : Option (Result (Unit {0}) (SendError T))) : Type 0 where
    AlreadyFinished : send ≡ Finished → new ≡ old → after ≡ Finished → answer ≡ Some (Ok tt)
        → SendPoll A send signal old new after answer
    Tries : (message : T) → (next : SendNext T) → send ≡ Unsent message → signal ≡ None
        → Turned {A = A} (TrySend message) after_try_send old new next
        → IsFirstAnswer message next → FirstSendOutcome message old new next
        → finishes_send next after answer → SendPoll A send signal old new after answer
    Parks : (message : T) → (next : SendNext T) → (given : S) → send ≡ Unsent message
        → signal ≡ Some given → Turned {A = A} (Send message) after_send old new next
        → IsParkingAnswer message next → ParkSendOutcome A message given old new next
        → finishes_send next after answer → SendPoll A send signal old new after answer
    -- if it is blocked and has no signal, it takes its message back
    Asks : (last : Bool) → (ticket : ℕ) → (next : SendNext T) → send ≡ Parked ticket
        → (last ≡ true → (signal ≡ None) × IsHeldBack ticket old)
        → (last ≡ false → signal ≡ None → ¬ (IsHeldBack ticket old))
        → Turned {A = A} (step_of_parked_send ticket last) (after_parked_send ticket last)
        old new next
        → IsParkedAnswer ticket last next → AgainSendOutcome A ticket last signal old new next
        → finishes_send next after answer → SendPoll A send signal old new after answer

module _ {T A : Type 0} where
  -- the step of such a poll with its reply, or none, by the send before it
  pub data SendPollSteps (after : PolledSend T) (answer : Option (Result (Unit {0}) (SendError T)))
      : PolledSend T → List (Step T × Reply T A) → Type 0 where
    MakesNone : after ≡ Finished → answer ≡ Some (Ok tt) → SendPollSteps after answer Finished []
    MakesTry : {message : T} {reply : Reply T A} (next : SendNext T) → after_try_send reply next
        → IsFirstAnswer message next → finishes_send next after answer
        → SendPollSteps after answer (Unsent message) ((TrySend message, reply) ∷ [])
    MakesSend : {message : T} {reply : Reply T A} (next : SendNext T) → after_send reply next
        → IsParkingAnswer message next → finishes_send next after answer
        → SendPollSteps after answer (Unsent message) ((Send message, reply) ∷ [])
    MakesPoll : {ticket : ℕ} {reply : Reply T A} (next : SendNext T) (last : Bool)
        → after_parked_send ticket last reply next → IsParkedAnswer ticket last next
        → finishes_send next after answer
        → SendPollSteps after answer (Parked ticket) ((step_of_parked_send ticket last, reply) ∷ [])

  -- each poll is a batch of them
  abbrev pub send_poll_leads : {S : Type 0} {send after : PolledSend T} {signal : Option S}
      {old new : State T S} {answer : Option (Result (Unit {0}) (SendError T))}
      → SendPoll A send signal old new after answer
      → IsBatch (λ made answer. SendPollSteps after answer send made) old new answer
  send_poll_leads {after = after} {old = old} {answer = answer}
      (AlreadyFinished is same finished ok) = record {
        made = [];
        reachable = subst (λ new. StepsBetween {A = A} old [] new) (sym same) NoSteps;
        answered = subst (λ send. SendPollSteps after answer send []) (sym is)
            (MakesNone finished ok);
      }
  send_poll_leads {after = after} {answer = answer}
      (Tries message next is none turn first outcome finishes) = with_table turn
      (subst (λ send. SendPollSteps after answer send ((TrySend message, turn.reply) ∷ []))
      (sym is) (MakesTry next turn.answered first finishes))
  send_poll_leads {after = after} {answer = answer}
      (Parks message next given is some turn parking outcome finishes) = with_table turn
      (subst (λ send. SendPollSteps after answer send ((Send message, turn.reply) ∷ []))
      (sym is) (MakesSend next turn.answered parking finishes))
  send_poll_leads {after = after} {answer = answer}
      (Asks last ticket next is held signalled turn again outcome finishes) = with_table turn
      (subst (λ send. SendPollSteps after answer send
      ((step_of_parked_send ticket last, turn.reply) ∷ []))
      (sym is) (MakesPoll next last turn.answered again finishes))
