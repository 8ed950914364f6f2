-- Why a configuration is dead: nothing that may come next leads on.
use Rattle.std.proofs.Common.{◌≡◌, ◌≤◌, ◌⊎◌, inl, inr, ℕ, zero, suc, ◌+◌, ◌==◌, Bool, true, false, List, [], ◌∷◌, ◌++◌, Option, Some, None}
use Rattle.std.proofs.Common.{refl, sym, ap, ◌∙◌, subst, drop, length, arith, if◌then◌else◌}
use Rattle.std.proofs.lemmas.Bool.{eqb-true}
use Rattle.std.proofs.lemmas.List.Elements.{Contains-push_cases}
use Rattle.std.specs.Bool.{IsTrue}
use Rattle.std.specs.List.{Contains}
use Rattle.flume_model.specs.declared.step.Step.{Step}
use Rattle.flume_model.specs.Log.{Opening}
use Rattle.judge_calls.specs.declared.call.Call.{Call}
use Rattle.judge_calls.specs.declared.call.Call.TheVariants.{SendAsync}
use Rattle.judge_calls.specs.declared.call.Answer.{Answer}
use Rattle.judge_calls.specs.declared.event.Event.{Event}
use Rattle.judge_calls.specs.declared.event.Event.TheVariants.{Begins, Returns}
use Rattle.judge_calls.specs.declared.event.Item.{Item}
use Rattle.judge_calls.specs.declared.event.Item.TheVariants.{Happens, Makes}
use Rattle.judge_calls.specs.declared.stage.Stage.{Stage}
use Rattle.judge_calls.specs.declared.stage.Stage.TheVariants.{Begun, Answered}
use Rattle.judge_calls.specs.Calls.{alternative_step}
use Rattle.judge_calls.specs.Answers.{may_return}
use Rattle.judge_calls.specs.Explanations.{events_in, open_call, after_reply, returns, IsNextStep, AreCalls, IsExplanation}
use Rattle.judge_calls.proofs.UniqueLemmas.{run_before}
use Rattle.judge_search.specs.declared.choice.Choice.{Choice}
use Rattle.judge_search.specs.declared.choice.Choice.TheVariants.{TakeEvent, MakeStep}
use Rattle.judge_search.specs.declared.configuration.OpenCall.{OpenCall}
use Rattle.judge_search.specs.Configurations.{State, event_at, thread_at, first_answer}
use Rattle.judge_search.specs.Leads.{IsWrong, LeadsTo, LeadsNowhere}
use Rattle.judge_search.specs.Dead.{onto, IsDeadEnd, IsDeadEndWithin, IsItemOf, CoverNext, IsSpent, LeadsOnly, EventLeads, EventWaits}

module _ {T A : Type 0} (equal : T → T → Bool) (events : List (Event T A)) where
  -- an explanation without its later items is one
  pub before : (o : Opening) (past items : List (Item T A)) → IsExplanation equal o (onto items past) → IsExplanation equal o past
  before o past [] x = x
  before o past (item ∷ items) x =
      let later = before o (item ∷ past) items x in
      record { calls = later.calls.1; run = run_before equal o item past later.run }

  -- the event at a place, and those behind it
  pub event_there : (all : List (Event T A)) (place : ℕ) (event : Event T A) (rest : List (Event T A)) → event ∷ rest ≡ drop place all
      → (event_at all place ≡ Some event) × (rest ≡ drop (place + 1) all)
  event_there [] zero event rest is = absurd (let none : ⊥ = cc in none)
  event_there [] (suc place) event rest is = absurd (let none : ⊥ = cc in none)
  event_there (first ∷ all) zero event rest is = (let same : Some first ≡ Some event = cc in same, let same : rest ≡ all = cc in same)
  event_there (first ∷ all) (suc place) event rest is =
      let k = event_there all place event rest is in
      (k.0, k.1 ∙ ap (λ n. drop n (first ∷ all)) (let more : suc (place + 1) ≡ suc place + 1 = omega arith in more))

  -- the event leads to one configuration, and is spent if it can't come
  pub event_only : (place : ℕ) (c new : State) → EventLeads equal events place c new
      → LeadsOnly equal events place c TakeEvent (place + 1) new
  event_only place c new leads o past (Makes u step reply) items agrees gone on of = let is = of.1 in
      absurd (let none : ⊥ = cc in none)
  event_only place c new leads o past (Happens event) items agrees gone on of =
      let there = event_there events place event (events_in items) on.events_are in
      let fits = (before o (Happens event ∷ past) items on.explains).calls.0 in
      gone o (Happens event ∷ past) items (omega arith) (leads o past event agrees there.0 fits)
      (record { events_are = there.1; late_steps = on.late_steps; explains = on.explains })

  pub spent_wait : (place : ℕ) (c : State) → EventWaits equal events place c → IsSpent equal events place c TakeEvent
  spent_wait place c waits o past (Makes u step reply) items agrees short on of = let is = of.1 in absurd (let none : ⊥ = cc in none)
  spent_wait place c waits o past (Happens event) items agrees short on of =
      let there = event_there events place event (events_in items) on.events_are in
      waits o past event agrees there.0 (before o (Happens event ∷ past) items on.explains).calls.0

  -- a step leads to one configuration, and is spent if that is the same one, or if it leads nowhere
  abbrev pub Leads : ℕ → State → OpenCall → (other refused : Bool) → State → Type 0
  Leads place c call other refused new = (t : ℕ) → Contains c.calls call → thread_at events call.place ≡ Some t
      → LeadsTo equal events c (drop place events) t other refused new

  pub step_only : (place : ℕ) (c new : State) (call : OpenCall) (other refused : Bool) → Leads place c call other refused new
      → LeadsOnly equal events place c (MakeStep call other refused) place new
  step_only place c new call other refused leads o past (Happens event) items agrees gone on of = of.3
  step_only place c new call other refused leads o past (Makes u step reply) items agrees gone on of =
      gone o (Makes u step reply ∷ past) items (omega arith)
      (leads of.0 of.1 of.2 o past (Makes u step reply) agrees of.3 (before o (Makes u step reply ∷ past) items on.explains).run)
      (record { events_are = on.events_are; late_steps = on.late_steps.1; explains = on.explains })

  pub spent_same : (place : ℕ) (c : State) (call : OpenCall) (other refused : Bool) → Leads place c call other refused c
      → IsSpent equal events place c (MakeStep call other refused)
  spent_same place c call other refused leads o past (Happens event) items agrees short on of = of.3
  spent_same place c call other refused leads o past (Makes u step reply) items agrees short on of =
      short o (Makes u step reply ∷ past) items (omega arith)
      (leads of.0 of.1 of.2 o past (Makes u step reply) agrees of.3 (before o (Makes u step reply ∷ past) items on.explains).run)
      (record { events_are = on.events_are; late_steps = on.late_steps.1; explains = on.explains })

  -- a call that has its answer makes no step
  other_of_answered : (call : Call T) (own : Answer T A) → alternative_step call (Answered own) ≡ None
  other_of_answered (SendAsync m) own = refl
  other_of_answered _ own = refl

  pub no_step : (current : Option (Call T × Stage T A)) (call : Call T) (own : Answer T A) → current ≡ Some (call, Answered own)
      → (step : Step T)
      → IsNextStep current step → ⊥
  no_step current call own is step next = none (subst (λ f. IsNextStep f step) is next)
    where
      none : IsNextStep (Some (call, Answered own)) step → ⊥
      none (inl e) = let gone : ⊥ = cc in gone
      none (inr e) = let same = other_of_answered call own in let gone : ⊥ = cc in gone

  pub calls_before : (past items : List (Item T A)) → AreCalls equal (onto items past) → AreCalls equal past
  calls_before past [] x = x
  calls_before past (item ∷ items) x = (calls_before (item ∷ past) items x).1

  -- so a call that has a wrong answer never returns as is recorded
  pub wrong : (t : ℕ) (call : Call T) (own recorded_answer : Answer T A) (past items : List (Item T A))
      → may_return equal call (Answered own) recorded_answer ≡ false → open_call past t ≡ Some (call, Answered own)
      → first_answer t (events_in items) ≡ Some recorded_answer → AreCalls equal (onto items past) → ⊥
  wrong t call own recorded_answer past [] never so first calls = let none : ⊥ = cc in none
  wrong t call own recorded_answer past (Makes u step reply ∷ items) never so first calls =
      by (λ k. wrong t call own recorded_answer (Makes u step reply ∷ past) items never k first calls)
      (u == t) refl (calls_before (Makes u step reply ∷ past) items calls).0
    where
      by : (open_call (Makes u step reply ∷ past) t ≡ Some (call, Answered own) → ⊥)
          → (b : Bool) → (u == t) ≡ b → IsNextStep (open_call past u) step → ⊥
      by on true is fits = no_step (open_call past u) call own (ap (open_call past) (eqb-true u t is) ∙ so) step fits
      by on false is fits = on (ap (λ b. if b then after_reply reply (open_call past t) else open_call past t) is ∙ so)
  wrong t call own recorded_answer past (Happens (Begins u more) ∷ items) never so first calls =
      by (λ k. wrong t call own recorded_answer (Happens (Begins u more) ∷ past) items never k first calls)
      (u == t) refl (calls_before (Happens (Begins u more) ∷ past) items calls).0
    where
      by : (open_call (Happens (Begins u more) ∷ past) t ≡ Some (call, Answered own) → ⊥)
          → (b : Bool) → (u == t) ≡ b → open_call past u ≡ None → ⊥
      by on true is fits = let same = ap (open_call past) (eqb-true u t is) in let none : ⊥ = cc in none
      by on false is fits = on (ap (λ b. if b then Some (more, Begun) else open_call past t) is ∙ so)
  wrong t call own recorded_answer past (Happens (Returns u answer) ∷ items) never so first calls =
      by (λ k e. wrong t call own recorded_answer (Happens (Returns u answer) ∷ past) items never k e calls)
      (u == t) refl (calls_before (Happens (Returns u answer) ∷ past) items calls).0
    where
      by : (open_call (Happens (Returns u answer) ∷ past) t ≡ Some (call, Answered own)
          → first_answer t (events_in items) ≡ Some recorded_answer → ⊥)
          → (b : Bool) → (u == t) ≡ b → IsTrue (returns equal (open_call past u) answer) → ⊥
      by on true is fits =
          let picked : Some answer ≡ Some recorded_answer = sym (ap (λ b. if b then Some answer else first_answer t (events_in items)) is)
          ∙ first in
          let same : answer ≡ recorded_answer = cc in
          let may : IsTrue (may_return equal call (Answered own) recorded_answer) =
          subst (λ a. IsTrue (may_return equal call (Answered own) a)) same
          (subst (λ f. IsTrue (returns equal f answer)) (ap (open_call past) (eqb-true u t is) ∙ so) fits) in
          let on_true : may_return equal call (Answered own) recorded_answer ≡ true = may in
          let none : ⊥ = cc in none
      by on false is fits = on (ap (λ b. if b then None else open_call past t) is ∙ so)
          (sym (ap (λ b. if b then Some answer else first_answer t (events_in items)) is) ∙ first)

  -- such a move of this open call, by whichever thread, leads to no explanation
  abbrev pub LeadsOff : ℕ → State → OpenCall → (other refused : Bool) → Type 0
  LeadsOff place c call other refused = (t : ℕ) → Contains c.calls call → thread_at events call.place ≡ Some t
      → LeadsNowhere equal events c (drop place events) t other refused

  pub spent_nowhere : (place : ℕ) (c : State) (call : OpenCall) (other refused : Bool) → LeadsOff place c call other refused
      → IsSpent equal events place c (MakeStep call other refused)
  spent_nowhere place c call other refused off o past (Happens event) items agrees short on of = of.3
  spent_nowhere place c call other refused off o past (Makes u step reply) items agrees short on of =
      by (open_call (Makes u step reply ∷ past) of.0) refl (first_answer of.0 (drop place events)) refl
      (off of.0 of.1 of.2 o past (Makes u step reply) agrees of.3 (before o (Makes u step reply ∷ past) items on.explains).run)
    where
      by : (current : Option (Call T × Stage T A)) → open_call (Makes u step reply ∷ past) of.0 ≡ current
          → (recorded_answer : Option (Answer T A)) → first_answer of.0 (drop place events) ≡ recorded_answer
          → IsWrong equal events current recorded_answer → ⊥
      by None so recorded_answer first h = h
      by (Some current) so None first h = h
      by (Some current) so (Some recorded_answer) first h =
          wrong of.0 current.0 h.1.0 recorded_answer (Makes u step reply ∷ past) items
          (subst (λ s. may_return equal current.0 s recorded_answer ≡ false) h.1.1 h.0)
          (so ∙ ap (λ s. Some (current.0, s)) h.1.1)
          (ap (first_answer of.0) on.events_are ∙ first) on.explains.calls
