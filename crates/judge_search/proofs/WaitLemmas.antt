-- When the next event can't come: it begins a call of a thread that has one open, or returns what the open call may not.
use Rattle.std.proofs.Common.{◌≡◌, ℕ, Bool, true, false, List, Option, Some, None, refl, sym, ap, ◌∙◌, subst, drop}
use Rattle.std.proofs.lemmas.Bool.{false≢true}
use Rattle.std.specs.Bool.{IsTrue}
use Rattle.judge_calls.specs.declared.call.Call.{Call}
use Rattle.judge_calls.specs.declared.call.Answer.{Answer}
use Rattle.judge_calls.specs.declared.event.Event.{Event}
use Rattle.judge_calls.specs.declared.event.Event.TheVariants.{Begins, Returns}
use Rattle.judge_calls.specs.declared.event.Item.TheVariants.{Happens}
use Rattle.judge_calls.specs.declared.stage.Stage.{Stage}
use Rattle.judge_calls.specs.declared.stage.Stage.TheVariants as stage
use Rattle.judge_calls.specs.Answers.{may_return}
use Rattle.judge_calls.specs.Explanations.{open_call, returns, Fits}
use Rattle.judge_search.specs.declared.configuration.OpenCall.{OpenCall}
use Rattle.judge_search.specs.declared.configuration.Progress.{Progress}
use Rattle.judge_search.specs.declared.configuration.Progress.TheVariants.{Begun, Tried, Parked, Refused, Done}
use Rattle.judge_search.specs.Configurations.{State, event_at, call_at, call_by, first_answer}
use Rattle.judge_search.specs.Agreement.{IsOpenAs, IsProgress}
use Rattle.judge_search.specs.Happens.{may_end}
use Rattle.judge_search.specs.Dead.{EventWaits}

module _ {T A : Type 0} (equal : T → T → Bool) (events : List (Event T A)) where
  -- a thread that has a call open begins none
  pub waits_begins : (place : ℕ) (c : State) (t : ℕ) (call : Call T) (one : OpenCall) → event_at events place ≡ Some (Begins t call)
      → call_by events t c.calls ≡ Some one → EventWaits equal events place c
  waits_begins place c t call one begins own o past event agrees there fits =
      by (open_call past t) (subst (λ e. Fits equal past (Happens e)) same fits)
      (subst (λ x. IsOpenAs equal events agrees.tickets (first_answer t (drop place events)) x (open_call past t)) own (agrees.calls_are t))
    where
      same : event ≡ Begins t call
      same = let k = sym there ∙ begins in let e : event ≡ Begins t call = cc in e

      by : (current : Option (Call T × Stage T A)) → current ≡ None
          → IsOpenAs equal events agrees.tickets (first_answer t (drop place events)) (Some one) current → ⊥
      by None none h = h
      by (Some current) none h = let gone : ⊥ = cc in gone

  -- a thread that has none open returns nothing
  pub waits_none : (place : ℕ) (c : State) (t : ℕ) (recorded_answer : Answer T A) → event_at events place ≡ Some (Returns t recorded_answer)
      → call_by events t c.calls ≡ None → EventWaits equal events place c
  waits_none place c t recorded_answer returns_it none o past event agrees there fits =
      by (open_call past t) (subst (λ e. Fits equal past (Happens e)) same fits)
      (subst (λ x. IsOpenAs equal events agrees.tickets (first_answer t (drop place events)) x (open_call past t)) none
      (agrees.calls_are t))
    where
      same : event ≡ Returns t recorded_answer
      same = let k = sym there ∙ returns_it in let e : event ≡ Returns t recorded_answer = cc in e

      by : (current : Option (Call T × Stage T A)) → IsTrue (returns equal current recorded_answer)
          → IsOpenAs equal events agrees.tickets (first_answer t (drop place events)) None current → ⊥
      by None may h = false≢true may
      by (Some current) may h = h

  -- a call that is so far returns this only if it may
  pub may_end-may_return : (call : Call T) (recorded : Option (Answer T A)) (ticket : ℕ) (recorded_answer : Answer T A)
      (progress : Progress) (current : Stage T A)
      → IsProgress equal events call recorded ticket progress current → may_return equal call current recorded_answer ≡ true
      → may_end equal (Some call) progress recorded_answer ≡ true
  may_end-may_return call recorded ticket recorded_answer Begun stage.Begun h may = may
  may_end-may_return call recorded ticket recorded_answer Tried stage.Tried h may = may
  may_end-may_return call recorded ticket recorded_answer Parked (stage.Parked n) h may = may
  may_end-may_return call recorded ticket recorded_answer Refused (stage.Refused n) h may = may
  may_end-may_return call recorded ticket recorded_answer Done (stage.Answered own) h may = refl
  may_end-may_return call recorded ticket recorded_answer _ _ h may = absurd h

  -- an open call returns nothing that it may not
  pub waits_call : (place : ℕ) (c : State) (t : ℕ) (recorded_answer : Answer T A) (one : OpenCall)
      → event_at events place ≡ Some (Returns t recorded_answer)
      → call_by events t c.calls ≡ Some one → may_end equal (call_at events one.place) one.progress recorded_answer ≡ false
      → EventWaits equal events place c
  waits_call place c t recorded_answer one returns_it own never o past event agrees there fits =
      by (open_call past t) (subst (λ e. Fits equal past (Happens e)) same fits)
      (subst (λ x. IsOpenAs equal events agrees.tickets (first_answer t (drop place events)) x (open_call past t)) own (agrees.calls_are t))
    where
      same : event ≡ Returns t recorded_answer
      same = let k = sym there ∙ returns_it in let e : event ≡ Returns t recorded_answer = cc in e

      by : (current : Option (Call T × Stage T A)) → IsTrue (returns equal current recorded_answer)
          → IsOpenAs equal events agrees.tickets (first_answer t (drop place events)) (Some one) current → ⊥
      by None may h = h
      by (Some current) may h =
          false≢true (sym never ∙ ap (λ x. may_end equal x one.progress recorded_answer) h.0
          ∙ may_end-may_return current.0 (first_answer t (drop place events)) (agrees.tickets one.place) recorded_answer one.progress
          current.1 h.1 may)
