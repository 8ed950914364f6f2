-- A receive that is polled: which step each poll makes, and what it answers.
use Rattle.std.specs.Prelude.{◌≡◌, ℕ, Bool, true, false, Option, Some, None, Result, Ok, Err}
use Rattle.std.specs.Prelude.{is_some, List, [], ◌∷◌}
use mathlib.Core.Path.{sym, subst, ◌∙◌}
use Rattle.flume_model.specs.declared.step.Kind.{Kind}
use Rattle.flume_model.specs.declared.step.Step.{Step}
use Rattle.flume_model.specs.declared.step.Step.TheVariants.{TryRecv, Recv, Poll}
use Rattle.flume_model.specs.declared.step.Reply.{Reply}
use Rattle.flume_state.specs.State.{State}
use Rattle.flume_core.specs.Waiting.{FindsNothing}
use Rattle.flume_core.specs.declared.error.RecvError.{RecvError}
use Rattle.flume_core.specs.declared.error.RecvError.TheVariants.{Disconnected, NoMemory}
use Rattle.flume_core.specs.declared.error.RecvTimeoutError.TheVariants as timed
use Rattle.flume_calls.specs.declared.calls.receive.RecvNext.{RecvNext}
use Rattle.flume_calls.specs.declared.calls.receive.RecvNext.TheVariants.{Done, NeedSignal, Park}
use Rattle.flume_calls.specs.declared.calls.receive.RecvNext.TheVariants.{Refused}
use Rattle.flume_calls.specs.Turns.{Turned}
use Rattle.flume_calls.specs.Batches.{StepsBetween, NoSteps, IsBatch, with_table}
use Rattle.flume_calls.specs.ReceiveTurns.{after_try_recv, after_recv, after_poll}
use Rattle.flume_calls.specs.ReceiveTurns.{IsFirstAnswer, IsParkingAnswer, IsPollAnswer, HadMemory}
use Rattle.flume_calls.specs.ReceiveOutcomes.{FirstReceiveOutcome, ParkReceiveOutcome}
use Rattle.flume_calls.specs.ReceiveOutcomes.{AgainReceiveOutcome}

module _ {T : Type 0} where
  -- what a poll that waits on answers, by whether it has a signal
  abbrev pub waiting_answer : Bool → Option (Result T RecvError)
  waiting_answer true = None
  waiting_answer false = Some (Err NoMemory)

  -- from whether a signal was given and what the turn led to, to the ticket then and the answer
  abbrev pub finishes_receive : Bool → RecvNext T → Option ℕ → Option (Result T RecvError) → Type 0
  finishes_receive signalled (Done (Ok message)) call answer =
      (call ≡ None) × (answer ≡ Some (Ok message))
  finishes_receive signalled (Done (Err timed.Disconnected)) call answer =
      (call ≡ None) × (answer ≡ Some (Err Disconnected))
  finishes_receive signalled (Done (Err timed.NoMemory)) call answer =
      (call ≡ None) × (answer ≡ Some (Err NoMemory))
  finishes_receive signalled (Done (Err timed.Timeout)) call answer = ⊥
  finishes_receive signalled NeedSignal call answer =
      (call ≡ None) × (answer ≡ Some (Err NoMemory))
  finishes_receive signalled (Park ticket) call answer =
      (call ≡ Some ticket) × (answer ≡ waiting_answer signalled)
  finishes_receive signalled (Refused ticket) call answer =
      (call ≡ Some ticket) × (answer ≡ Some (Err NoMemory))

module _ {T S : Type 0} where
  -- one poll of a receive of this kind, which is parked under `call` before and `after` then
  pub data ReceivePoll (A : Type 0) (kind : Kind) (call : Option ℕ) (signal : Option S)
      (old new : State T S) (after : Option ℕ) (answer : Option (Result T RecvError))
      : Type 0 where
    Tries : (next : RecvNext T) → call ≡ None → signal ≡ None
        → Turned {A = A} TryRecv after_try_recv old new next
        → IsFirstAnswer next → HadMemory next → FirstReceiveOutcome old new next
        → finishes_receive false next after answer
        → ReceivePoll A kind call signal old new after answer
    Parks : (next : RecvNext T) → (given : S) → call ≡ None → signal ≡ Some given
        → Turned {A = A} (Recv kind) after_recv old new next → IsParkingAnswer next
        → ParkReceiveOutcome kind given old new next
        → finishes_receive true next after answer
        → ReceivePoll A kind call signal old new after answer
    -- it finds nothing, and has no signal to wait with
    Unsignalled : (ticket : ℕ) → call ≡ Some ticket → signal ≡ None → FindsNothing old → new ≡ old
        → after ≡ call → answer ≡ Some (Err NoMemory)
        → ReceivePoll A kind call signal old new after answer
    Asks : (next : RecvNext T) → (ticket : ℕ) → call ≡ Some ticket
        → (signal ≡ None → ¬ (FindsNothing old))
        → Turned {A = A} (Poll ticket) (after_poll ticket) old new next
        → IsPollAnswer ticket next → HadMemory next
        → AgainReceiveOutcome ticket false signal old new next
        → finishes_receive (is_some signal) next after answer
        → ReceivePoll A kind call signal old new after answer

module _ {T A : Type 0} where
  -- the step of such a poll with its reply, or none, by the ticket before it
  pub data ReceivePollSteps (kind : Kind) (after : Option ℕ) (answer : Option (Result T RecvError))
      : Option ℕ → List (Step T × Reply T A) → Type 0 where
    MakesTry : {reply : Reply T A} (next : RecvNext T) → after_try_recv reply next
        → IsFirstAnswer next → finishes_receive false next after answer
        → ReceivePollSteps kind after answer None ((TryRecv, reply) ∷ [])
    MakesRecv : {reply : Reply T A} (next : RecvNext T) → after_recv reply next
        → IsParkingAnswer next → finishes_receive true next after answer
        → ReceivePollSteps kind after answer None ((Recv kind, reply) ∷ [])
    MakesNone : {ticket : ℕ} → after ≡ Some ticket → answer ≡ Some (Err NoMemory)
        → ReceivePollSteps kind after answer (Some ticket) []
    MakesPoll : {reply : Reply T A} {ticket : ℕ} (next : RecvNext T) (signalled : Bool)
        → after_poll ticket reply next → IsPollAnswer ticket next
        → finishes_receive signalled next after answer
        → ReceivePollSteps kind after answer (Some ticket) ((Poll ticket, reply) ∷ [])

  -- each poll is a batch of them
  abbrev pub receive_poll_leads : {S : Type 0} {kind : Kind} {call after : Option ℕ}
      {signal : Option S} {old new : State T S} {answer : Option (Result T RecvError)}
      → ReceivePoll A kind call signal old new after answer
      → IsBatch (λ made answer. ReceivePollSteps kind after answer call made) old new answer
  receive_poll_leads {kind = kind} {after = after} {answer = answer}
      (Tries next is none turn first served outcome finishes) = with_table turn
      (subst (λ call. ReceivePollSteps kind after answer call ((TryRecv, turn.reply) ∷ []))
      (sym is) (MakesTry next turn.answered first finishes))
  receive_poll_leads {kind = kind} {after = after} {answer = answer}
      (Parks next given is some turn parking outcome finishes) = with_table turn
      (subst (λ call. ReceivePollSteps kind after answer call ((Recv kind, turn.reply) ∷ []))
      (sym is) (MakesRecv next turn.answered parking finishes))
  receive_poll_leads {kind = kind} {after = after} {old = old} {answer = answer}
      (Unsignalled ticket is none nothing same kept said) = record {
        made = [];
        reachable = subst (λ new. StepsBetween {A = A} old [] new) (sym same) NoSteps;
        answered = subst (λ call. ReceivePollSteps kind after answer call []) (sym is)
            (MakesNone (kept ∙ is) said);
      }
  receive_poll_leads {kind = kind} {after = after} {answer = answer}
      (Asks next ticket is signalled turn later served outcome finishes) = with_table turn
      (subst (λ call. ReceivePollSteps kind after answer call ((Poll ticket, turn.reply) ∷ []))
      (sym is) (MakesPoll next _ turn.answered later finishes))
