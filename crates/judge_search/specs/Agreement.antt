-- When a configuration agrees with the items so far.
use Rattle.std.specs.Prelude.{◌≡◌, ◌<◌, ◌==◌, ℕ, Bool, true, false, ◌&&◌, List, Option, Some, None}
use Rattle.std.specs.List.{All, list_any}
use Rattle.std.specs.Option.{option_map_or}
use Rattle.flume_model.specs.Log.{Opening}
use Rattle.flume_state.specs.State.{State as Channel}
use Rattle.flume_core.specs.Represents.{Represents}
use Rattle.judge_calls.specs.declared.call.Call.{Call}
use Rattle.judge_calls.specs.declared.call.Answer.{Answer}
use Rattle.judge_calls.specs.declared.event.Event.{Event}
use Rattle.judge_calls.specs.declared.event.Item.{Item}
use Rattle.judge_calls.specs.declared.stage.Stage.{Stage}
use Rattle.judge_calls.specs.declared.stage.Stage.TheVariants as stage
use Rattle.judge_calls.specs.Answers.{may_return}
use Rattle.judge_calls.specs.Calls.{is_send}
use Rattle.judge_calls.specs.Explanations.{open_call, steps_in}
use Rattle.judge_search.specs.declared.configuration.OpenCall.{OpenCall}
use Rattle.judge_search.specs.declared.configuration.Progress.{Progress}
use Rattle.judge_search.specs.declared.configuration.Progress.TheVariants.{Begun, Tried, Parked}
use Rattle.judge_search.specs.declared.configuration.Progress.TheVariants.{Refused, Done}
use Rattle.judge_search.specs.Configurations.{State, call_at, thread_at, call_by, is_parked}
use Rattle.judge_search.specs.Configurations.{first_answer}
use Rattle.judge_search.specs.Mirrors.{Mirrors}

-- whether some open call has this place, and is parked
abbrev pub parked_at : List OpenCall → ℕ → Bool
parked_at calls p = list_any (λ call. call.place == p && is_parked call.progress) calls

module _ {T A : Type 0} (events : List (Event T A)) where
  -- whether the call at a place is a send that waits
  abbrev pub is_send_at : ℕ → Bool
  is_send_at p = option_map_or is_send (call_at events p) false

  -- the parked calls have tickets of their own, below the next one; the blocked ones are the sends
  pub record AreParked (tickets : ℕ → ℕ) (next : ℕ) (c : State) : Type 0 where
    pub tickets_apart : (p q : ℕ) → parked_at c.calls p ≡ true → parked_at c.calls q ≡ true
        → tickets p ≡ tickets q → p ≡ q
    pub tickets_below : (p : ℕ) → parked_at c.calls p ≡ true → tickets p < next
    pub blocked_parked : All (λ p. parked_at c.calls p ≡ true) c.blocked
    pub receives_parked : All (λ r. parked_at c.calls r.place ≡ true) c.receives
    pub blocked_send : All (λ p. is_send_at p ≡ true) c.blocked
    pub receives_apart : All (λ r. is_send_at r.place ≡ false) c.receives

module _ {T A : Type 0} where
  -- whether a call that has come to an answer may return what is recorded, if anything is
  abbrev pub may_as_recorded : (T → T → Bool) → Call T → Answer T A → Option (Answer T A) → Bool
  may_as_recorded equal call own None = true
  may_as_recorded equal call own (Some recorded) =
      may_return equal call (stage.Answered own) recorded

module _ {T A : Type 0} (equal : T → T → Bool) (events : List (Event T A)) where
  -- the progress is that of this stage, for a call with this ticket that is recorded to return this
  abbrev pub IsProgress : Call T → Option (Answer T A) → ℕ → Progress → Stage T A → Type 0
  IsProgress call recorded ticket Begun stage.Begun = Unit {0}
  IsProgress call recorded ticket Tried stage.Tried = Unit {0}
  IsProgress call recorded ticket Parked (stage.Parked t) = t ≡ ticket
  IsProgress call recorded ticket Refused (stage.Refused t) = (t ≡ ticket) × (is_send call ≡ false)
  IsProgress call recorded ticket Done (stage.Answered own) =
      may_as_recorded equal call own recorded ≡ true
  IsProgress call recorded ticket _ _ = ⊥

  -- this is the thread's open call, at its progress
  abbrev pub IsOpenAs : (ℕ → ℕ) → Option (Answer T A) → Option OpenCall
      → Option (Call T × Stage T A) → Type 0
  IsOpenAs tickets recorded None None = Unit {0}
  IsOpenAs tickets recorded (Some one) (Some current) =
      (call_at events one.place ≡ Some current.0)
      × IsProgress current.0 recorded (tickets one.place) one.progress current.1
  IsOpenAs tickets recorded _ _ = ⊥

  -- the open call is the one that its thread has among these
  abbrev pub IsOwn : List OpenCall → OpenCall → Type 0
  IsOwn calls one =
      (t : ℕ) × (thread_at events one.place ≡ Some t) × (call_by events t calls ≡ Some one)

  -- the configuration agrees with `past`, the newest item first; `tickets` go by places of calls
  pub record Agrees (opening : Opening) (past : List (Item T A)) (rest : List (Event T A))
      (c : State) : Type 0 where
    pub state : Channel T (Unit {0})
    pub represents : Represents opening (steps_in past) state
    pub tickets : ℕ → ℕ
    pub channel : Mirrors events tickets state c
    pub calls_are : (t : ℕ) → IsOpenAs tickets (first_answer t rest) (call_by events t c.calls)
        (open_call past t)
    pub threads_apart : All (IsOwn c.calls) c.calls
    pub parked : AreParked events tickets state.next_ticket c
