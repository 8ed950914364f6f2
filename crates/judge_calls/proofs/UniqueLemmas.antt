-- Items tell of one explanation, but for where drained lists are kept.
use Rattle.std.proofs.Common.{◌≡◌, ℕ, ◌<◌, ◌==◌, Bool, true, List, [], ◌∷◌, Option, Some, None, inl, inr}
use Rattle.std.proofs.Common.{refl, sym, ap, ◌∙◌, subst, length, take, drop, reverse, ◌++◌, take-append-drop}
use Rattle.std.proofs.Common.{if◌then◌else◌}
use Rattle.std.proofs.Math.ListN.{get_or}
use Rattle.std.proofs.lemmas.List.{reverse-append, reverse-reverse}
use Rattle.std.specs.Bool.{IsTrue}
use Rattle.std.specs.List.{AllZip}
use Rattle.flume_model.specs.declared.step.Kind.TheVariants.{Plain}
use Rattle.flume_model.specs.declared.step.Step.{Step}
use Rattle.flume_model.specs.declared.step.Step.TheVariants as step
use Rattle.flume_model.specs.declared.step.Reply.{Reply}
use Rattle.flume_model.specs.declared.step.Reply.TheVariants.{Drained}
use Rattle.flume_model.specs.Log.{Opening}
use Rattle.flume_model.specs.Channel.{channel}
use Rattle.flume_model.specs.Replies.{IsReply, IsRun, SameReply}
use Rattle.flume_model.specs.EqualSteps.{equal_steps}
use Rattle.flume_history.specs.Equal.{Equals}
use Rattle.flume_history.specs.SameRuns.{SameSteps}
use Rattle.flume_history.proofs.EqualityLemmas.{tells_want}
use Rattle.flume_history.proofs.FollowLemmas.{with_next}
use Rattle.flume_history.proofs.OneRunLemmas.{one_run}
use Rattle.flume_history.proofs.SameLogLemmas.{channel_same}
use Rattle.judge_calls.specs.declared.call.Call.{Call}
use Rattle.judge_calls.specs.declared.call.Call.TheVariants as call
use Rattle.judge_calls.specs.declared.call.Answer.TheVariants as answer
use Rattle.judge_calls.specs.declared.event.Event.TheVariants.{Begins, Returns}
use Rattle.judge_calls.specs.declared.event.Item.{Item}
use Rattle.judge_calls.specs.declared.event.Item.TheVariants.{Happens, Makes}
use Rattle.judge_calls.specs.declared.stage.Stage.{Stage}
use Rattle.judge_calls.specs.declared.stage.Stage.TheVariants.{Begun, Tried, Parked, Answered}
use Rattle.judge_calls.specs.Calls.{next_step, alternative_step, stage_after}
use Rattle.judge_calls.specs.Explanations.{steps_in, events_in, after_reply, open_call, IsNextStep}
use Rattle.judge_calls.specs.Explanations.{returns, Fits, IsExplanation, IsExplained}
use Rattle.judge_calls.specs.Descriptions.{Describes, DescribeExplanation, BreaksAt}
use Rattle.judge_calls.specs.Following.{NeverComesNext}

module _ {T : Type 0} (equal : T → T → Bool) where
  -- it equals a step that there is
  abbrev equals : Step T → Option (Step T) → Type 0
  equals recorded None = ⊥
  equals recorded (Some own) = equal_steps equal recorded own ≡ true

  -- no step equals both steps that a call may make
  sends_apart : (recorded : Step T) (m : T) → equal_steps equal recorded (step.Send m) ≡ true
      → equal_steps equal recorded (step.TrySend m) ≡ true → ⊥
  sends_apart (step.Send x) m h k = let none : ⊥ = cc in none
  sends_apart _ m h k = let none : ⊥ = cc in none

  receives_apart : (recorded : Step T) → equal_steps equal recorded (step.Recv Plain) ≡ true
      → equal_steps equal recorded step.TryRecv ≡ true → ⊥
  receives_apart (step.Recv kind) h k = let none : ⊥ = cc in none
  receives_apart _ h k = let none : ⊥ = cc in none

  parked_sends_apart : (recorded : Step T) (t : ℕ) → equal_steps equal recorded (step.PollSend t) ≡ true
      → equal_steps equal recorded (step.WithdrawSend t) ≡ true → ⊥
  parked_sends_apart (step.PollSend u) t h k = let none : ⊥ = cc in none
  parked_sends_apart _ t h k = let none : ⊥ = cc in none

  parked_receives_apart : (recorded : Step T) (t : ℕ) → equal_steps equal recorded (step.Poll t) ≡ true
      → equal_steps equal recorded (step.Withdraw t) ≡ true → ⊥
  parked_receives_apart (step.Poll u) t h k = let none : ⊥ = cc in none
  parked_receives_apart _ t h k = let none : ⊥ = cc in none

module _ {T A : Type 0} (equal : T → T → Bool) where
  apart : (c : Call T) (stage : Stage T A) (recorded : Step T) → equals equal recorded (next_step c stage)
      → equals equal recorded (alternative_step c stage) → ⊥
  apart (call.SendAsync m) Begun recorded h k = sends_apart equal recorded m h k
  apart call.RecvAsync Begun recorded h k = receives_apart equal recorded h k
  apart call.RecvAsync Tried recorded h k = receives_apart equal recorded h k
  apart (call.SendTimeout m) (Parked t) recorded h k = parked_sends_apart equal recorded t h k
  apart (call.SendAsync m) (Parked t) recorded h k = parked_sends_apart equal recorded t h k
  apart call.RecvTimeout (Parked t) recorded h k = parked_receives_apart equal recorded t h k
  apart call.RecvAsync (Parked t) recorded h k = parked_receives_apart equal recorded t h k
  apart _ _ recorded h k = k

  -- so one of them is recorded
  one_step : (current : Option (Call T × Stage T A)) (recorded s r : Step T) → IsNextStep current s → IsNextStep current r
      → equal_steps equal recorded s ≡ true → equal_steps equal recorded r ≡ true → s ≡ r
  one_step None recorded s r m n h k = absurd m
  one_step (Some current) recorded s r (inl m) (inl n) h k = let same : s ≡ r = cc in same
  one_step (Some current) recorded s r (inr m) (inr n) h k = let same : s ≡ r = cc in same
  one_step (Some current) recorded s r (inl m) (inr n) h k =
      absurd (apart current.0 current.1 recorded (subst (equals equal recorded) (sym m) h) (subst (equals equal recorded) (sym n) k))
  one_step (Some current) recorded s r (inr m) (inl n) h k =
      absurd (apart current.0 current.1 recorded (subst (equals equal recorded) (sym n) k) (subst (equals equal recorded) (sym m) h))

  -- if no recorded reply of the own step is lawful, the item goes nowhere
  pub unlawful : (o : Opening) (past : List (Item T A)) (t : ℕ) (recorded : Step T) (reply : Reply T A) (s : Step T)
      → IsNextStep (open_call past t) s → equal_steps equal recorded s ≡ true
      → ((other : Reply T A) → IsReply (channel o (steps_in past)) s other → Equals equal reply other → ⊥)
      → NeverComesNext equal o past (Makes t recorded reply)
  unlawful o past t recorded reply s m h none (Happens event) is fits run = is
  unlawful o past t recorded reply s m h none (Makes u r other) is fits run =
      let same : r ≡ s =
      one_step (open_call past t) recorded r s (subst (λ n. IsNextStep (open_call past n) r) (sym is.0) fits) m is.1 h in
      none other (subst (λ x. IsReply (channel o (steps_in past)) x other) same run.0) is.2

  -- replies that are the same lead a call to the same
  stage_same : (c : Call T) (stage : Stage T A) (reply other : Reply T A) → SameReply reply other
      → stage_after c stage reply ≡ stage_after c stage other
  stage_same c stage (Drained list) (Drained more) h = ap (λ l. Answered (answer.Drained l)) h
  stage_same c stage reply other h = ap (stage_after c stage) h

  further_same : (current : Option (Call T × Stage T A)) (reply other : Reply T A) → SameReply reply other
      → after_reply reply current ≡ after_reply other current
  further_same None reply other h = refl
  further_same (Some current) reply other h = ap (λ stage. Some (current.0, stage)) (stage_same current.0 current.1 reply other h)

  -- what is recorded leads to the same calls, by the same steps
  abbrev AreSame : List (Item T A) → List (Item T A) → Type 0
  AreSame past other = ((t : ℕ) → open_call past t ≡ open_call other t) × SameSteps (steps_in past) (steps_in other)

  pub run_before : (o : Opening) (item : Item T A) (past : List (Item T A)) → IsRun o (steps_in (item ∷ past)) → IsRun o (steps_in past)
  run_before o (Happens event) past run = run
  run_before o (Makes t s reply) past run = run.1

  open_same : (item : Item T A) (past other : List (Item T A)) → ((t : ℕ) → open_call past t ≡ open_call other t)
      → (t : ℕ) → open_call (item ∷ past) t ≡ open_call (item ∷ other) t
  open_same (Happens (Begins u c)) past other same t = ap (λ current. if u == t then Some (c, Begun) else current) (same t)
  open_same (Happens (Returns u recorded)) past other same t = ap (λ current. if u == t then None else current) (same t)
  open_same (Makes u s reply) past other same t = ap (λ current. if u == t then after_reply reply current else current) (same t)

  fits_same : (item : Item T A) (past other : List (Item T A)) → ((t : ℕ) → open_call past t ≡ open_call other t)
      → Fits equal other item → Fits equal past item
  fits_same (Happens (Begins u c)) past other same fits = same u ∙ fits
  fits_same (Happens (Returns u recorded)) past other same fits = subst (λ current. IsTrue (returns equal current recorded))
      (sym (same u)) fits
  fits_same (Makes u s reply) past other same fits = subst (λ current. IsNextStep current s) (sym (same u)) fits

  same : (o : Opening) (recorded past other : List (Item T A)) → AllZip (Describes equal) recorded past
      → AllZip (Describes equal) recorded other
      → IsExplanation equal o past → IsExplanation equal o other → AreSame past other
  same o [] [] [] h k x y = (λ t. refl, tt)
  same o [] [] (q ∷ other) h k x y = absurd k
  same o [] (p ∷ past) other h k x y = absurd h
  same o (i ∷ recorded) [] other h k x y = absurd h
  same o (i ∷ recorded) (p ∷ past) [] h k x y = absurd k
  same o (i ∷ recorded) (p ∷ past) (q ∷ other) h k x y =
      by_item i p q h.0 k.0 x.calls.0 y.calls.0 x.run y.run
      (same o recorded past other h.1 k.1 (record { calls = x.calls.1; run = run_before o p past x.run })
      (record { calls = y.calls.1; run = run_before o q other y.run }))
    where
      by_item : (i p q : Item T A) → Describes equal i p → Describes equal i q → Fits equal past p → Fits equal other q
          → IsRun o (steps_in (p ∷ past)) → IsRun o (steps_in (q ∷ other)) → AreSame past other → AreSame (p ∷ past) (q ∷ other)
      by_item (Happens event) (Happens e) (Happens f) h k m n run run' before = (
        λ t. open_same (Happens e) past other before.0 t ∙ ap (λ x. open_call (Happens x ∷ other) t) (sym h ∙ k),
        before.1,
      )
      by_item (Happens event) (Happens e) (Makes u s r) h k m n run run' before = absurd k
      by_item (Happens event) (Makes u s r) q h k m n run run' before = absurd h
      by_item (Makes t s r) (Happens e) q h k m n run run' before = absurd h
      by_item (Makes t s r) (Makes u s' r') (Happens f) h k m n run run' before = absurd k
      by_item (Makes t s r) (Makes u s' r') (Makes v s'' r'') h k m n run run' before =
          let threads : u ≡ v = sym h.0 ∙ k.0 in
          let one : s' ≡ s'' =
          one_step (open_call past u) s s' s'' m
          (subst (λ current. IsNextStep current s'') (sym (ap (open_call past) threads ∙ before.0 v)) n) h.1 k.1 in
          let steps : SameSteps (steps_in (Makes u s' r' ∷ past)) (steps_in (Makes v s'' r'' ∷ other)) =
          (one, tells_want equal r r' r'' h.2 k.2, before.1) in
          let logs = one_run o (steps_in (Makes u s' r' ∷ past)) (steps_in (Makes v s'' r'' ∷ other)) run run' steps in (
            λ t. ap (λ current. if u == t then after_reply r' current else current) (before.0 t)
                ∙ ap (λ current. if u == t then current else open_call other t) (further_same (open_call other t) r' r'' logs.1)
                ∙ ap (λ n. if n == t then after_reply r'' (open_call other t) else open_call other t) threads,
            steps,
          )

  -- what goes nowhere after one explanation does so after each with the same record
  run_same : (o : Opening) (item : Item T A) (past other : List (Item T A)) → IsRun o (steps_in past) → AreSame past other
      → IsRun o (steps_in (item ∷ other)) → IsRun o (steps_in (item ∷ past))
  run_same o (Happens event) past other run alike run' = run
  run_same o (Makes t s reply) past other run alike run' = (
    subst (λ c. IsReply c s reply) (sym (channel_same o (steps_in past) (steps_in other)
        (one_run o (steps_in past) (steps_in other) run run'.1 alike.1))) run'.0,
    run,
  )

  no_more : (o : Opening) (recorded : List (Item T A)) (item : Item T A) (past : List (Item T A)) → AllZip (Describes equal) recorded past
      → IsExplanation equal o past → NeverComesNext equal o past item → (other : List (Item T A))
      → AllZip (Describes equal) (item ∷ recorded) other
      → IsExplanation equal o other → ⊥
  no_more o recorded item past h x none [] k y = k
  no_more o recorded item past h x none (q ∷ other) k y =
      let alike = same o recorded past other h k.1 x (record { calls = y.calls.1; run = run_before o q other y.run }) in
      none q k.0 (fits_same q past other alike.0 y.calls.0) (run_same o q past other x.run alike y.run)

  pub breaks_at : (o : Opening) (items : List (Item T A)) (place : ℕ) (item : Item T A) → place < length items
      → item ≡ get_or items place item → (past : List (Item T A)) → AllZip (Describes equal) (reverse (take place items)) past
      → IsExplanation equal o past → NeverComesNext equal o past item → BreaksAt equal o items place
  breaks_at o items place item within at past recorded whole none = record {
    is_within = within;
    before = (past, recorded, whole);
    not_with_next = λ on. no_more o (reverse (take place items)) item past recorded whole none on.0
        (subst (λ l. AllZip (Describes equal) l on.0) (with_next items place item within at) on.1) on.2;
  }

  -- a beginning of what tells of an explanation tells of one
  behind : (o : Opening) (later recorded past : List (Item T A)) → AllZip (Describes equal) (later ++ recorded) past
      → IsExplanation equal o past
      → (before : List (Item T A)) × AllZip (Describes equal) recorded before × IsExplanation equal o before
  behind o [] recorded past h x = (past, h, x)
  behind o (i ∷ later) recorded [] h x = absurd h
  behind o (i ∷ later) recorded (p ∷ past) h x =
      behind o later recorded past h.1 (record { calls = x.calls.1; run = run_before o p past x.run })

  pub beginning : (o : Opening) (n : ℕ) (items : List (Item T A)) → DescribeExplanation equal o items
      → DescribeExplanation equal o (take n items)
  beginning o n items h =
      behind o (reverse (drop n items)) (reverse (take n items)) h.0
      (subst (λ l. AllZip (Describes equal) l h.0) (ap reverse (sym (take-append-drop n items))
      ∙ reverse-append (take n items) (drop n items)) h.1) h.2

  -- the events are the recorded ones
  pub events_append : (xs ys : List (Item T A)) → events_in (xs ++ ys) ≡ events_in xs ++ events_in ys
  events_append [] ys = refl
  events_append (Happens event ∷ xs) ys = ap (λ l. event ∷ l) (events_append xs ys)
  events_append (Makes t s reply ∷ xs) ys = events_append xs ys

  one_event : (item : Item T A) → reverse (events_in (item ∷ [])) ≡ events_in (item ∷ [])
  one_event (Happens event) = refl
  one_event (Makes t s reply) = refl

  events_reverse : (items : List (Item T A)) → events_in (reverse items) ≡ reverse (events_in items)
  events_reverse [] = refl
  events_reverse (item ∷ items) =
      ap events_in (reverse-append (item ∷ []) items) ∙ events_append (reverse items) (item ∷ [])
      ∙ ap (λ l. l ++ events_in (item ∷ [])) (events_reverse items)
      ∙ ap (λ l. reverse (events_in items) ++ l) (sym (one_event item))
      ∙ sym (reverse-append (events_in (item ∷ [])) (events_in items))
      ∙ ap reverse (sym (events_append (item ∷ []) items))

  told_events : (recorded past : List (Item T A)) → AllZip (Describes equal) recorded past → events_in recorded ≡ events_in past
  told_events [] [] h = refl
  told_events [] (p ∷ past) h = absurd h
  told_events (i ∷ recorded) [] h = absurd h
  told_events (Happens e ∷ recorded) (Happens f ∷ past) h = ap (λ l. e ∷ l) (told_events recorded past h.1)
      ∙ ap (λ x. x ∷ events_in past) h.0
  told_events (Happens e ∷ recorded) (Makes t s r ∷ past) h = absurd h.0
  told_events (Makes t s r ∷ recorded) (Happens f ∷ past) h = absurd h.0
  told_events (Makes t s r ∷ recorded) (Makes u s' r' ∷ past) h = told_events recorded past h.1

  pub explained : (o : Opening) (items : List (Item T A)) → DescribeExplanation equal o items → IsExplained equal o (events_in items)
  explained o items h = (
    h.0,
    events_reverse h.0 ∙ ap reverse (sym (told_events (reverse items) h.0 h.1)) ∙ sym (events_reverse (reverse items))
        ∙ ap events_in (reverse-reverse items),
    h.2,
  )
