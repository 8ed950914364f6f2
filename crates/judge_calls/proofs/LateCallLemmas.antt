-- The steps of an explanation may come late: each waits for an event of its thread.
use Rattle.std.proofs.Common.{◌≡◌, ℕ, ◌==◌, Bool, true, false, List, [], ◌∷◌, ◌++◌, Option, Some, None, refl}
use Rattle.std.proofs.Common.{sym, ap, ◌∙◌, subst, append_assoc, reverse, eq-eqb, if◌then◌else◌}
use Rattle.std.proofs.lemmas.Bool.{eqb-true}
use Rattle.std.proofs.lemmas.List.{reverse-append, reverse-reverse, append-nil}
use Rattle.std.specs.Bool.{IsTrue}
use Rattle.flume_model.specs.declared.step.Step.{Step}
use Rattle.flume_model.specs.declared.step.Reply.{Reply}
use Rattle.flume_model.specs.Log.{Log, Opening}
use Rattle.flume_model.specs.Replies.{IsRun}
use Rattle.judge_calls.specs.declared.call.Call.{Call}
use Rattle.judge_calls.specs.declared.event.Event.{Event}
use Rattle.judge_calls.specs.declared.event.Event.TheVariants.{Begins, Returns}
use Rattle.judge_calls.specs.declared.event.Item.{Item}
use Rattle.judge_calls.specs.declared.event.Item.TheVariants.{Happens, Makes}
use Rattle.judge_calls.specs.declared.stage.Stage.{Stage}
use Rattle.judge_calls.specs.declared.stage.Stage.TheVariants.{Begun}
use Rattle.judge_calls.specs.Explanations.{steps_in, after_reply, open_call, IsNextStep, returns, Fits, AreCalls, IsExplained}
use Rattle.judge_calls.specs.LateSteps.{IsFollowed, AreLate, IsExplainedLate}
use Rattle.judge_calls.proofs.LateItemLemmas.{of_item, pick, own, steps_reverse, late_items, same_events}
use Rattle.judge_calls.proofs.LateItemLemmas.{same_steps, same_own, IsWaited, AreWaited, waited}

-- if `equal` compares messages
module _ {T A : Type 0} (equal : T → T → Bool) where
  -- what a thread may do next, by its state
  abbrev Fit : Option (Call T × Stage T A) → Item T A → Type 0
  Fit c (Happens (Begins t call)) = c ≡ None
  Fit c (Happens (Returns t recorded)) = IsTrue (returns equal c recorded)
  Fit c (Makes t step reply) = IsNextStep c step

  -- and its state then
  abbrev after : Option (Call T × Stage T A) → Item T A → Option (Call T × Stage T A)
  after c (Happens (Begins t call)) = Some (call, Begun)
  after c (Happens (Returns t recorded)) = None
  after c (Makes t step reply) = after_reply reply c

  -- what one thread does
  abbrev Does : Option (Call T × Stage T A) → List (Item T A) → Type 0
  Does c [] = Unit {0}
  Does c (item ∷ items) = Fit c item × Does (after c item) items

  -- the first items are done, if all are
  does_first : (c : Option (Call T × Stage T A)) (xs ys : List (Item T A)) → Does c (xs ++ ys) → Does c xs
  does_first c [] ys h = tt
  does_first c (item ∷ xs) ys h = (h.0, does_first (after c item) xs ys h.1)

  -- an item fits the past exactly if it fits its thread's state
  fit_of : (past : List (Item T A)) (item : Item T A) → Fits equal past item → Fit (open_call past (of_item item)) item
  fit_of past (Happens (Begins t call)) h = h
  fit_of past (Happens (Returns t recorded)) h = h
  fit_of past (Makes t step reply) h = h

  fits_of : (past : List (Item T A)) (item : Item T A) → Fit (open_call past (of_item item)) item → Fits equal past item
  fits_of past (Happens (Begins t call)) h = h
  fits_of past (Happens (Returns t recorded)) h = h
  fits_of past (Makes t step reply) h = h

  -- a thread's state behind an item: as it was, but for the item's own thread
  stands_is : (past : List (Item T A)) (item : Item T A) (t : ℕ)
      → open_call (item ∷ past) t ≡ (if of_item item == t then after (open_call past t) item else open_call past t)
  stands_is past (Happens (Begins u call)) t = refl
  stands_is past (Happens (Returns u recorded)) t = refl
  stands_is past (Makes u step reply) t = refl

  stands_own : (past : List (Item T A)) (item : Item T A) (t : ℕ) → (of_item item == t) ≡ true
      → open_call (item ∷ past) t ≡ after (open_call past t) item
  stands_own past item t is =
      stands_is past item t ∙ ap (λ b. if b then after (open_call past t) item else open_call past t) is

  stands_other : (past : List (Item T A)) (item : Item T A) (t : ℕ) → (of_item item == t) ≡ false
      → open_call (item ∷ past) t ≡ open_call past t
  stands_other past item t is =
      stands_is past item t ∙ ap (λ b. if b then after (open_call past t) item else open_call past t) is

  -- items that may come behind the past, the oldest first
  abbrev AreNext : List (Item T A) → List (Item T A) → Type 0
  AreNext past [] = Unit {0}
  AreNext past (item ∷ items) = Fits equal past item × AreNext (item ∷ past) items

  -- an item that comes next is the newest
  shift : (item : Item T A) (xs ys : List (Item T A)) → reverse (item ∷ xs) ++ ys ≡ reverse xs ++ item ∷ ys
  shift item xs ys =
      ap (λ l. l ++ ys) (reverse-append (item ∷ []) xs) ∙ append_assoc (reverse xs) (item ∷ []) ys

  -- what calls do is what comes next, item by item
  forward : (items past : List (Item T A)) → AreCalls equal (reverse items ++ past) → AreNext past items × AreCalls equal past
  forward [] past h = (tt, h)
  forward (item ∷ items) past h =
      let k = forward items (item ∷ past) (subst (AreCalls equal) (shift item items past) h) in
      ((k.1.0, k.0), k.1.1)

  backward : (items past : List (Item T A)) → AreNext past items → AreCalls equal past → AreCalls equal (reverse items ++ past)
  backward [] past h calls = calls
  backward (item ∷ items) past h calls =
      subst (AreCalls equal) (sym (shift item items past)) (backward items (item ∷ past) h.1 (h.0, calls))

  -- what all threads do is what each of them does
  split : (items past : List (Item T A)) (t : ℕ) → AreNext past items → Does (open_call past t) (own t items)
  split [] past t h = tt
  split (item ∷ items) past t h = by_thread (of_item item == t) refl (split items (item ∷ past) t h.1)
    where
      by_thread : (b : Bool) → (of_item item == t) ≡ b → Does (open_call (item ∷ past) t) (own t items)
          → Does (open_call past t) (pick b item (own t items))
      by_thread true is later = (
        subst (λ n. Fit (open_call past n) item) (eqb-true (of_item item) t is) (fit_of past item h.0),
        subst (λ c. Does c (own t items)) (stands_own past item t is) later,
      )
      by_thread false is later = subst (λ c. Does c (own t items)) (stands_other past item t is) later

  join : (items past : List (Item T A)) → ((t : ℕ) → Does (open_call past t) (own t items)) → AreNext past items
  join [] past h = tt
  join (item ∷ items) past h = (first, join items (item ∷ past) (λ t. by_thread t (of_item item == t) refl (h t)))
    where
      first : Fits equal past item
      first =
          fits_of past item
          ((subst (λ b. Does (open_call past (of_item item)) (pick b item (own (of_item item) items)))
          (eq-eqb (of_item item) (of_item item) refl) (h (of_item item))).0)

      by_thread : (t : ℕ) (b : Bool) → (of_item item == t) ≡ b → Does (open_call past t) (pick b item (own t items))
          → Does (open_call (item ∷ past) t) (own t items)
      by_thread t true is does = subst (λ c. Does c (own t items)) (sym (stands_own past item t is)) does.1
      by_thread t false is does = subst (λ c. Does c (own t items)) (sym (stands_other past item t is)) does

  -- a thread that has made a step has a call open, and doesn't begin another one
  still_open : (c : Option (Call T × Stage T A)) (step : Step T) (reply : Reply T A) → IsNextStep c step → after_reply reply c ≡ None → ⊥
  still_open None step reply made none = made
  still_open (Some current) step reply made none = let no_way : ⊥ = cc in no_way

  -- a step that is waited for is followed
  followed : (past : List (Item T A)) (t : ℕ) (step : Step T) (reply : Reply T A) (items : List (Item T A))
      → Fits equal past (Makes t step reply) → AreNext (Makes t step reply ∷ past) items → IsWaited t items → IsFollowed t items
  followed past t step reply [] made h is = is
  followed past t step reply (Makes u next recorded ∷ items) made h is = tt
  followed past t step reply (Happens (Returns u recorded) ∷ items) made h is = is
  followed past t step reply (Happens (Begins u call) ∷ items) made h is =
      still_open (open_call past t) step reply made
      (sym (stands_own past (Makes t step reply) t (eq-eqb t t refl))
      ∙ ap (open_call (Makes t step reply ∷ past)) is ∙ h.0)

  -- so all are late
  are_late : (items past : List (Item T A)) → AreNext past items → AreWaited items → AreLate items
  are_late [] past h w = tt
  are_late (Happens event ∷ items) past h w = are_late items (Happens event ∷ past) h.1 w
  are_late (Makes t step reply ∷ items) past h w =
      (followed past t step reply items h.0 h.1 w.0, are_late items (Makes t step reply ∷ past) h.1 w.1)

  -- the later steps of a run may be left out
  run_behind : (o : Opening) (later log : Log T A) → IsRun o (later ++ log) → IsRun o log
  run_behind o [] log run = run
  run_behind o (p ∷ later) log run = run_behind o later log run.1

  -- the steps of an explanation may come late
  pub explained_late : (o : Opening) (events : List (Event T A)) → IsExplained equal o events → IsExplainedLate equal o events
  explained_late o events h =
      let items = reverse h.0 in
      let back_again : reverse items ≡ h.0 = reverse-reverse h.0 in
      let next : AreNext [] items =
      (forward items [] (subst (AreCalls equal) (sym (append-nil (reverse items) ∙ back_again)) h.2.calls)).0 in
      let made : AreNext [] (late_items [] items) =
      join (late_items [] items) []
      (λ t. let k = same_own t [] items in
      does_first None (own t (late_items [] items)) k.0 (subst (Does None) k.1 (split items [] t next))) in
      let k = same_steps [] items in (
        late_items [] items,
        same_events [] items ∙ h.1,
        record {
          calls = subst (AreCalls equal) (append-nil (reverse (late_items [] items))) (backward (late_items [] items) [] made tt);
          run = run_behind o (reverse k.0) (steps_in (reverse (late_items [] items)))
              (subst (IsRun o)
              (ap steps_in (sym back_again) ∙ steps_reverse items ∙ ap reverse k.1 ∙ reverse-append (steps_in (late_items [] items)) k.0
              ∙ ap (λ l. reverse k.0 ++ l) (sym (steps_reverse (late_items [] items)))) h.2.run);
        },
        are_late (late_items [] items) [] made (waited [] items),
      )
