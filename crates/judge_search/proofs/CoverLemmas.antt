-- What may come next: the next event, or a step of an open call; and only the event, if it begins a call, or if the call that
-- returns has its answer.
use Rattle.std.proofs.Common.{◌≡◌, inl, inr, ℕ, ◌==◌, Bool, true, false, List, [], ◌∷◌, Option, Some, None, refl, sym, ap, ◌∙◌, subst, drop}
use Rattle.std.proofs.Common.{if◌then◌else◌}
use Rattle.std.proofs.lemmas.Bool.{eqb-true, false≢true}
use Rattle.std.specs.Bool.{IsTrue}
use Rattle.std.specs.List.{Contains}
use Rattle.flume_model.specs.declared.step.Step.{Step}
use Rattle.flume_model.specs.declared.step.Reply.{Reply}
use Rattle.judge_calls.specs.declared.call.Call.{Call}
use Rattle.judge_calls.specs.declared.call.Answer.{Answer}
use Rattle.judge_calls.specs.declared.event.Event.{Event}
use Rattle.judge_calls.specs.declared.event.Event.TheVariants.{Begins, Returns}
use Rattle.judge_calls.specs.declared.event.Item.{Item}
use Rattle.judge_calls.specs.declared.event.Item.TheVariants.{Happens, Makes}
use Rattle.judge_calls.specs.declared.stage.Stage.{Stage}
use Rattle.judge_calls.specs.declared.stage.Stage.TheVariants as stage
use Rattle.judge_calls.specs.Explanations.{events_in, open_call, after_reply, returns, IsNextStep, AreCalls}
use Rattle.judge_calls.specs.LateSteps.{AreLate}
use Rattle.judge_search.specs.declared.choice.Choice.{Choice}
use Rattle.judge_search.specs.declared.choice.Choice.TheVariants.{TakeEvent, MakeStep}
use Rattle.judge_search.specs.declared.configuration.OpenCall.{OpenCall}
use Rattle.judge_search.specs.declared.configuration.Progress.TheVariants.{Done}
use Rattle.judge_search.specs.Configurations.{State, event_at, thread_at, call_by, first_answer}
use Rattle.judge_search.specs.Agreement.{IsOpenAs, IsProgress}
use Rattle.judge_search.specs.Moves.{is_refusal, IsStepOf}
use Rattle.judge_search.specs.Dead.{onto, IsItemOf, CoverNext}
use Rattle.judge_search.proofs.DeadReceiveLemmas.{before, calls_before, event_there, no_step}

module _ {T A : Type 0} (equal : T → T → Bool) (events : List (Event T A)) where
  -- a step that stands late is not before the beginning of a call
  late_step : (t u : ℕ) (step : Step T) (reply : Reply T A) (call : Call T) (items : List (Item T A)) (rest : List (Event T A))
      → AreLate (Makes t step reply ∷ items) → events_in items ≡ Begins u call ∷ rest → ⊥
  late_step t u step reply call [] rest late is = late.0
  late_step t u step reply call (Makes v other back ∷ items) rest late is = late_step v u other back call items rest late.1 is
  late_step t u step reply call (Happens (Begins v more) ∷ items) rest late is = late.0
  late_step t u step reply call (Happens (Returns v answer) ∷ items) rest late is = let none : ⊥ = cc in none

  -- late steps come before an event
  some_event : (v : ℕ) (other : Step T) (back : Reply T A) (xs : List (Item T A)) → AreLate (Makes v other back ∷ xs) → events_in xs ≡ []
      → ⊥
  some_event v other back [] late is = late.0
  some_event v other back (Makes w s r ∷ xs) late is = some_event w s r xs late.1 is
  some_event v other back (Happens event ∷ xs) late is = let none : ⊥ = cc in none

  pub only_begins : (place : ℕ) (c : State) (choices : List Choice) (t : ℕ) (call : Call T) → event_at events place ≡ Some (Begins t call)
      → Contains choices TakeEvent → CoverNext equal events place c choices
  only_begins place c choices t call begins has o past (Happens event) items agrees short on = (TakeEvent, has, (event, refl))
  only_begins place c choices t call begins has o past (Makes u step reply) items agrees short on = by (events_in items) refl
    where
      by : (rest : List (Event T A)) → events_in items ≡ rest
          → (choice : Choice) × Contains choices choice × IsItemOf equal events c past choice (Makes u step reply)
      by [] is = absurd (some_event u step reply items on.late_steps is)
      by (event ∷ rest) is =
          let there = event_there equal events events place event rest (sym is ∙ on.events_are) in
          let same : event ≡ Begins t call = (let k = sym there.0 ∙ begins in let e : event ≡ Begins t call = cc in e) in
          absurd (late_step u t step reply call items rest on.late_steps (is ∙ ap (λ e. e ∷ rest) same))

  -- the open call of a thread is one of the open calls
  abbrev Found : ℕ → List OpenCall → OpenCall → Type 0
  Found t calls call = Contains calls call × (thread_at events call.place ≡ Some t)

  -- each step is of an open call
  pub each_step : (place : ℕ) (c : State) (choices : List Choice) → Contains choices TakeEvent
      → ((call : OpenCall) (other refused : Bool) → Contains c.calls call → Contains choices (MakeStep call other refused))
      → ((t : ℕ) (call : OpenCall) → call_by events t c.calls ≡ Some call → Found t c.calls call)
      → CoverNext equal events place c choices
  each_step place c choices has each found o past (Happens event) items agrees short on = (TakeEvent, has, (event, refl))
  each_step place c choices has each found o past (Makes u step reply) items agrees short on =
      by (call_by events u c.calls) refl (open_call past u) refl (agrees.calls_are u)
      (before equal events o (Makes u step reply ∷ past) items on.explains).calls.0
    where
      by : (call : Option OpenCall) → call_by events u c.calls ≡ call → (current : Option (Call T × Stage T A)) → open_call past u ≡ current
          → IsOpenAs equal events agrees.tickets (first_answer u (drop place events)) call current
          → IsNextStep (open_call past u) step
          → (choice : Choice) × Contains choices choice × IsItemOf equal events c past choice (Makes u step reply)
      by None is None so h next = absurd (subst (λ f. IsNextStep f step) so next)
      by None is (Some current) so h next = absurd h
      by (Some call) is None so h next = absurd h
      by (Some call) is (Some current) so h next = which (subst (λ f. IsNextStep f step) so next)
        where
          which : IsNextStep (Some current) step
              → (choice : Choice) × Contains choices choice × IsItemOf equal events c past choice (Makes u step reply)
          which (inl e) =
              let at = found u call is in (
                MakeStep call false (is_refusal reply),
                each call false (is_refusal reply) at.0,
                (u, at.0, at.1, (refl, refl, subst (λ f. IsStepOf false f step) (sym so) e)),
              )
          which (inr e) =
              let at = found u call is in (
                MakeStep call true (is_refusal reply),
                each call true (is_refusal reply) at.0,
                (u, at.0, at.1, (refl, refl, subst (λ f. IsStepOf true f step) (sym so) e)),
              )

  -- no step stands before the return of a call that has its answer
  none_before : (t : ℕ) (call : Call T) (own recorded_answer : Answer T A) (u : ℕ) (step : Step T) (reply : Reply T A)
      (past items : List (Item T A))
      (rest : List (Event T A)) → open_call past t ≡ Some (call, stage.Answered own) → AreLate (Makes u step reply ∷ items)
      → events_in items ≡ Returns t recorded_answer ∷ rest → AreCalls equal (onto items (Makes u step reply ∷ past)) → ⊥
  none_before t call own recorded_answer u step reply past [] rest so late is calls = late.0
  none_before t call own recorded_answer u step reply past (Happens (Begins v more) ∷ items) rest so late is calls = late.0
  none_before t call own recorded_answer u step reply past (Happens (Returns v answer) ∷ items) rest so late is calls =
      let own_step : u ≡ t = (let e : u ≡ v = late.0 in let f : v ≡ t = cc in e ∙ f) in
      no_step equal events (open_call past u) call own (ap (open_call past) own_step ∙ so) step
      (calls_before equal events (Makes u step reply ∷ past) (Happens (Returns v answer) ∷ items) calls).0
  none_before t call own recorded_answer u step reply past (Makes v other back ∷ items) rest so late is calls =
      by (λ k. none_before t call own recorded_answer v other back (Makes u step reply ∷ past) items rest k late.1 is calls)
      (u == t) refl (calls_before equal events (Makes u step reply ∷ past) (Makes v other back ∷ items) calls).0
    where
      by : (open_call (Makes u step reply ∷ past) t ≡ Some (call, stage.Answered own) → ⊥)
          → (b : Bool) → (u == t) ≡ b → IsNextStep (open_call past u) step → ⊥
      by on true own_step fits = no_step equal events (open_call past u) call own (ap (open_call past) (eqb-true u t own_step)
          ∙ so) step fits
      by on false off fits = on (ap (λ b. if b then after_reply reply (open_call past t) else open_call past t) off ∙ so)

  pub only_returns : (place : ℕ) (c : State) (choices : List Choice) (t : ℕ) (recorded_answer : Answer T A) (call : OpenCall)
      → event_at events place ≡ Some (Returns t recorded_answer) → call_by events t c.calls ≡ Some call → call.progress ≡ Done
      → Contains choices TakeEvent → CoverNext equal events place c choices
  only_returns place c choices t recorded_answer call returns by_it done has o past (Happens event) items agrees short on =
      (TakeEvent, has, (event, refl))
  only_returns place c choices t recorded_answer call returns by_it done has o past (Makes u step reply) items agrees short on = absurd
      (answered (open_call past t) refl (subst (λ x. IsOpenAs equal events agrees.tickets (first_answer t (drop place events)) x
      (open_call past t))
      by_it (agrees.calls_are t)))
    where
      follow : (call : Call T) (own : Answer T A) → open_call past t ≡ Some (call, stage.Answered own) → (rest : List (Event T A))
          → events_in items ≡ rest → ⊥
      follow call own so [] is = some_event u step reply items on.late_steps is
      follow call own so (event ∷ rest) is =
          let there = event_there equal events events place event rest (sym is ∙ on.events_are) in
          let same : event ≡ Returns t recorded_answer = (let k = sym there.0 ∙ returns in let e : event ≡ Returns t recorded_answer =
          cc in e) in
          none_before t call own recorded_answer u step reply past items rest so on.late_steps (is
          ∙ ap (λ e. e ∷ rest) same) on.explains.calls

      stage_is : (own : Call T) (s : Stage T A) → IsProgress equal events own (first_answer t (drop place events))
          (agrees.tickets call.place) Done s
          → open_call past t ≡ Some (own, s) → ⊥
      stage_is own stage.Begun h so = h
      stage_is own stage.Tried h so = h
      stage_is own (stage.Parked k) h so = h
      stage_is own (stage.Refused k) h so = h
      stage_is own (stage.Answered a) h so = follow own a so (events_in items) refl

      answered : (current : Option (Call T × Stage T A)) → open_call past t ≡ current
          → IsOpenAs equal events agrees.tickets (first_answer t (drop place events)) (Some call) current → ⊥
      answered None so h = h
      answered (Some current) so h = stage_is current.0 current.1
          (subst (λ p. IsProgress equal events current.0 (first_answer t (drop place events)) (agrees.tickets call.place) p current.1)
          done h.1) so

  -- a thread with no call open returns nothing
  none_open : (t : ℕ) (recorded_answer : Answer T A) (past items : List (Item T A)) (rest : List (Event T A)) → open_call past t ≡ None
      → events_in items ≡ Returns t recorded_answer ∷ rest → AreCalls equal (onto items past) → ⊥
  none_open t recorded_answer past [] rest none is calls = let gone : ⊥ = cc in gone
  none_open t recorded_answer past (Happens (Begins v more) ∷ items) rest none is calls = let gone : ⊥ = cc in gone
  none_open t recorded_answer past (Happens (Returns v answer) ∷ items) rest none is calls =
      let same : v ≡ t = cc in
      let may : IsTrue (returns equal None answer) =
      subst (λ f. IsTrue (returns equal f answer)) (ap (open_call past) same ∙ none)
      (calls_before equal events (Happens (Returns v answer) ∷ past) items calls).0 in
      false≢true may
  none_open t recorded_answer past (Makes v step reply ∷ items) rest none is calls =
      none_open t recorded_answer (Makes v step reply ∷ past) items rest (still (v == t) refl) is calls
    where
      still : (b : Bool) → (v == t) ≡ b → open_call (Makes v step reply ∷ past) t ≡ None
      still true own = ap (λ b. if b then after_reply reply (open_call past t) else open_call past t) own ∙ ap (after_reply reply) none
      still false off = ap (λ b. if b then after_reply reply (open_call past t) else open_call past t) off ∙ none

  -- so only the event could come, if it returns none that is open
  pub none_returns : (place : ℕ) (c : State) (choices : List Choice) (t : ℕ) (recorded_answer : Answer T A)
      → event_at events place ≡ Some (Returns t recorded_answer) → call_by events t c.calls ≡ None
      → Contains choices TakeEvent → CoverNext equal events place c choices
  none_returns place c choices t recorded_answer returns_it no_call has o past (Happens event) items agrees short on =
      (TakeEvent, has, (event, refl))
  none_returns place c choices t recorded_answer returns_it no_call has o past (Makes u step reply) items agrees short on = absurd
      (by (open_call past t) refl (subst (λ x. IsOpenAs equal events agrees.tickets (first_answer t (drop place events)) x
      (open_call past t))
      no_call (agrees.calls_are t)))
    where
      follow : open_call past t ≡ None → (rest : List (Event T A)) → events_in items ≡ rest → ⊥
      follow so [] is = some_event u step reply items on.late_steps is
      follow so (event ∷ rest) is =
          let there = event_there equal events events place event rest (sym is ∙ on.events_are) in
          let same : event ≡ Returns t recorded_answer = (let k = sym there.0 ∙ returns_it in let e : event ≡ Returns t recorded_answer =
          cc in e) in
          none_open t recorded_answer past (Makes u step reply ∷ items) rest so (is ∙ ap (λ e. e ∷ rest) same) on.explains.calls

      by : (current : Option (Call T × Stage T A)) → open_call past t ≡ current
          → IsOpenAs equal events agrees.tickets (first_answer t (drop place events)) None current → ⊥
      by None so h = follow so (events_in items) refl
      by (Some current) so h = h
