-- Items whose steps wait, each for an event of its thread: what is kept of them.
use Rattle.std.proofs.Common.{◌≡◌, ℕ, ◌==◌, Bool, true, false, ◌||◌, List, [], ◌∷◌, ◌++◌, refl, sym, ap, ◌∙◌, subst, append_assoc, reverse}
use Rattle.std.proofs.lemmas.Bool.{eqb-true}
use Rattle.std.proofs.lemmas.List.{reverse-append, append-nil}
use Rattle.flume_model.specs.declared.step.Step.{Step}
use Rattle.flume_model.specs.declared.step.Reply.{Reply}
use Rattle.judge_calls.specs.declared.event.Event.{Event}
use Rattle.judge_calls.specs.declared.event.Event.TheVariants.{Begins, Returns}
use Rattle.judge_calls.specs.declared.event.Item.{Item}
use Rattle.judge_calls.specs.declared.event.Item.TheVariants.{Happens, Makes}
use Rattle.judge_calls.specs.Explanations.{events_in, steps_in}

-- steps that wait for an event of their threads, the oldest first
abbrev Waiting : Type 0 → Type 0 → Type 0
Waiting T A = List (ℕ × Step T × Reply T A)

-- the first of two, or the second
abbrev choose : {X : Type 0} → Bool → X → X → X
choose true x y = x
choose false x y = y

-- a list begins with another one
abbrev BeginsWith : {X : Type 0} → List X → List X → Type 0
BeginsWith {X} whole first = (rest : List X) × (whole ≡ first ++ rest)

-- of two that aren't both is neither
off_left : (a b : Bool) → (a || b) ≡ false → a ≡ false
off_left true b h = h
off_left false b h = refl

-- if the second is false, the first is what the two come to
on_left : (a : Bool) → (a || false) ≡ true → a ≡ true
on_left true h = refl
on_left false h = h

-- nor is the second of them true
off_right : (a b : Bool) → (a || b) ≡ false → b ≡ false
off_right true b h = absurd (let none : ⊥ = cc in none)
off_right false b h = h

module _ {T A : Type 0} where
  -- whose event it is
  abbrev of_event : Event T A → ℕ
  of_event (Begins t call) = t
  of_event (Returns t answer) = t

  -- whose item it is
  abbrev pub of_item : Item T A → ℕ
  of_item (Happens event) = of_event event
  of_item (Makes t step reply) = t

  -- an item in front of others, if it is to be there
  abbrev pub pick : Bool → Item T A → List (Item T A) → List (Item T A)
  pick true item items = item ∷ items
  pick false item items = items

  -- the items of one thread
  abbrev pub own : ℕ → List (Item T A) → List (Item T A)
  own t [] = []
  own t (item ∷ items) = pick (of_item item == t) item (own t items)

  -- the items of one thread, of two lists: those of the one, and then those of the other
  pick_append : (b : Bool) (item : Item T A) (xs ys : List (Item T A)) → pick b item (xs ++ ys) ≡ pick b item xs ++ ys
  pick_append true item xs ys = refl
  pick_append false item xs ys = refl

  own_append : (t : ℕ) (xs ys : List (Item T A)) → own t (xs ++ ys) ≡ own t xs ++ own t ys
  own_append t [] ys = refl
  own_append t (item ∷ xs) ys =
      ap (pick (of_item item == t) item) (own_append t xs ys) ∙ pick_append (of_item item == t) item (own t xs) (own t ys)

  -- the same of the steps; and they turn round with the items
  steps_append : (xs ys : List (Item T A)) → steps_in (xs ++ ys) ≡ steps_in xs ++ steps_in ys
  steps_append [] ys = refl
  steps_append (Happens event ∷ xs) ys = steps_append xs ys
  steps_append (Makes t step reply ∷ xs) ys = ap (λ l. (step, reply) ∷ l) (steps_append xs ys)

  one_step : (item : Item T A) → reverse (steps_in (item ∷ [])) ≡ steps_in (item ∷ [])
  one_step (Happens event) = refl
  one_step (Makes t step reply) = refl

  pub steps_reverse : (items : List (Item T A)) → steps_in (reverse items) ≡ reverse (steps_in items)
  steps_reverse [] = refl
  steps_reverse (item ∷ items) =
      ap steps_in (reverse-append (item ∷ []) items) ∙ steps_append (reverse items) (item ∷ [])
      ∙ ap (λ l. l ++ steps_in (item ∷ [])) (steps_reverse items)
      ∙ ap (λ l. reverse (steps_in items) ++ l) (sym (one_step item))
      ∙ sym (reverse-append (steps_in (item ∷ [])) (steps_in items))
      ∙ ap reverse (sym (steps_append (item ∷ []) items))

  -- steps that wait, as items
  abbrev put : Waiting T A → List (Item T A)
  put [] = []
  put (m ∷ p) = Makes m.0 m.1 m.2 ∷ put p

  -- whether a thread has one of them
  abbrev has : ℕ → Waiting T A → Bool
  has t [] = false
  has t (m ∷ p) = (m.0 == t) || has t p

  -- those up to the last one of a thread
  abbrev front : ℕ → Waiting T A → Waiting T A
  front t [] = []
  front t (m ∷ p) = choose (has t (m ∷ p)) (m ∷ front t p) []

  -- and those behind it
  abbrev back : ℕ → Waiting T A → Waiting T A
  back t [] = []
  back t (m ∷ p) = choose (has t (m ∷ p)) (back t p) (m ∷ p)

  -- the two together are all
  parts_at : (b : Bool) (m : ℕ × Step T × Reply T A) (f k p : Waiting T A) → put f ++ put k ≡ put p
      → put (choose b (m ∷ f) []) ++ put (choose b k (m ∷ p)) ≡ put (m ∷ p)
  parts_at true m f k p same = ap (λ l. Makes m.0 m.1 m.2 ∷ l) same
  parts_at false m f k p same = refl

  parts : (t : ℕ) (p : Waiting T A) → put (front t p) ++ put (back t p) ≡ put p
  parts t [] = refl
  parts t (m ∷ p) = parts_at (has t (m ∷ p)) m (front t p) (back t p) p (parts t p)

  -- none of those behind it is of the thread
  none_own : (t : ℕ) (p : Waiting T A) → has t p ≡ false → own t (put p) ≡ []
  none_own t [] h = refl
  none_own t (m ∷ p) h =
      ap (λ b. pick b (Makes m.0 m.1 m.2) (own t (put p))) (off_left (m.0 == t) (has t p) h)
      ∙ none_own t p (off_right (m.0 == t) (has t p) h)

  apart_at : (t : ℕ) (b : Bool) (m : ℕ × Step T × Reply T A) (p : Waiting T A) → has t (m ∷ p) ≡ b → own t (put (back t p)) ≡ []
      → own t (put (choose b (back t p) (m ∷ p))) ≡ []
  apart_at t true m p is later = later
  apart_at t false m p is later = none_own t (m ∷ p) is

  apart : (t : ℕ) (p : Waiting T A) → own t (put (back t p)) ≡ []
  apart t [] = refl
  apart t (m ∷ p) = apart_at t (has t (m ∷ p)) m p refl (apart t p)

  -- one more waits: its item is behind theirs
  put_more : (p : Waiting T A) (m : ℕ × Step T × Reply T A) (items : List (Item T A))
      → put (p ++ m ∷ []) ++ items ≡ put p ++ Makes m.0 m.1 m.2 ∷ items
  put_more [] m items = refl
  put_more (n ∷ p) m items = ap (λ l. Makes n.0 n.1 n.2 ∷ l) (put_more p m items)

  -- The items behind steps that wait: at an event of a thread those up to its last one are made. What
  -- is left at the end is left out.
  abbrev pub late_items : Waiting T A → List (Item T A) → List (Item T A)
  late_items p [] = []
  late_items p (Makes t step reply ∷ items) = late_items (p ++ (t, step, reply) ∷ []) items
  late_items p (Happens event ∷ items) =
      put (front (of_event event) p) ++ Happens event ∷ late_items (back (of_event event) p) items

  -- the events are the same
  events_put : (p : Waiting T A) (items : List (Item T A)) → events_in (put p ++ items) ≡ events_in items
  events_put [] items = refl
  events_put (m ∷ p) items = events_put p items

  pub same_events : (p : Waiting T A) (items : List (Item T A)) → events_in (late_items p items) ≡ events_in items
  same_events p [] = refl
  same_events p (Makes t step reply ∷ items) = same_events (p ++ (t, step, reply) ∷ []) items
  same_events p (Happens event ∷ items) =
      events_put (front (of_event event) p) (Happens event ∷ late_items (back (of_event event) p) items)
      ∙ ap (λ l. event ∷ l) (same_events (back (of_event event) p) items)

  -- the steps are the same, but for those that were left out
  pub same_steps : (p : Waiting T A) (items : List (Item T A)) → BeginsWith (steps_in (put p ++ items)) (steps_in (late_items p items))
  same_steps p [] = (steps_in (put p ++ []), refl)
  same_steps p (Makes t step reply ∷ items) =
      let k = same_steps (p ++ (t, step, reply) ∷ []) items in
      (k.0, sym (ap steps_in (put_more p (t, step, reply) items)) ∙ k.1)
  same_steps p (Happens event ∷ items) =
      let u = of_event event in
      let k = same_steps (back u p) items in (
        k.0,
        steps_append (put p) (Happens event ∷ items)
            ∙ ap (λ l. steps_in l ++ steps_in items) (sym (parts u p))
            ∙ ap (λ l. l ++ steps_in items) (steps_append (put (front u p)) (put (back u p)))
            ∙ append_assoc (steps_in (put (front u p))) (steps_in (put (back u p))) (steps_in items)
            ∙ ap (λ l. steps_in (put (front u p)) ++ l) (sym (steps_append (put (back u p)) items) ∙ k.1)
            ∙ sym (append_assoc (steps_in (put (front u p))) (steps_in (late_items (back u p) items)) k.0)
            ∙ ap (λ l. l ++ k.0) (sym (steps_append (put (front u p)) (Happens event ∷ late_items (back u p) items))),
      )

  -- and so are the items of each thread
  same_own_at : (b : Bool) (item : Item T A) (f k all l rest : List (Item T A)) → (b ≡ true → k ≡ []) → k ++ all ≡ l ++ rest
      → (f ++ k) ++ pick b item all ≡ (f ++ pick b item l) ++ rest
  same_own_at true item f k all l rest gone same =
      let none : k ≡ [] = gone refl in
      ap (λ x. (f ++ x) ++ item ∷ all) none ∙ ap (λ x. x ++ item ∷ all) (append-nil f)
      ∙ ap (λ x. f ++ item ∷ x) (sym (ap (λ x. x ++ all) none) ∙ same)
      ∙ sym (append_assoc f (item ∷ l) rest)
  same_own_at false item f k all l rest gone same =
      append_assoc f k all ∙ ap (λ x. f ++ x) same ∙ sym (append_assoc f l rest)

  pub same_own : (t : ℕ) (p : Waiting T A) (items : List (Item T A)) → BeginsWith (own t (put p ++ items)) (own t (late_items p items))
  same_own t p [] = (own t (put p ++ []), refl)
  same_own t p (Makes u step reply ∷ items) =
      let k = same_own t (p ++ (u, step, reply) ∷ []) items in
      (k.0, sym (ap (own t) (put_more p (u, step, reply) items)) ∙ k.1)
  same_own t p (Happens event ∷ items) =
      let u = of_event event in
      let k = same_own t (back u p) items in (
        k.0,
        own_append t (put p) (Happens event ∷ items)
            ∙ ap (λ l. own t l ++ pick (u == t) (Happens event) (own t items)) (sym (parts u p))
            ∙ ap (λ l. l ++ pick (u == t) (Happens event) (own t items)) (own_append t (put (front u p)) (put (back u p)))
            ∙ same_own_at (u == t) (Happens event) (own t (put (front u p))) (own t (put (back u p))) (own t items)
            (own t (late_items (back u p) items)) k.0
            (λ is. subst (λ n. own n (put (back u p)) ≡ []) (eqb-true u t is) (apart u p))
            (sym (own_append t (put (back u p)) items) ∙ k.1)
            ∙ ap (λ l. l ++ k.0) (sym (own_append t (put (front u p)) (Happens event ∷ late_items (back u p) items))),
      )

  -- each step is followed by another one, or by an event of its thread
  abbrev pub IsWaited : ℕ → List (Item T A) → Type 0
  IsWaited t [] = ⊥
  IsWaited t (Makes u step reply ∷ items) = Unit {0}
  IsWaited t (Happens event ∷ items) = t ≡ of_event event

  -- each is
  abbrev pub AreWaited : List (Item T A) → Type 0
  AreWaited [] = Unit {0}
  AreWaited (Happens event ∷ items) = AreWaited items
  AreWaited (Makes t step reply ∷ items) = IsWaited t items × AreWaited items

  -- so it is with what `late` makes
  waited_at : (b : Bool) (m : ℕ × Step T × Reply T A) (t : ℕ) (p : Waiting T A) → has t (m ∷ p) ≡ b → (event : Event T A)
      → t ≡ of_event event
      → (items : List (Item T A)) → AreWaited (put (front t p) ++ Happens event ∷ items) → AreWaited items
      → AreWaited (put (choose b (m ∷ front t p) []) ++ Happens event ∷ items)
  waited_at true m t [] is event same items later behind =
      (eqb-true m.0 t (on_left (m.0 == t) is) ∙ same, later)
  waited_at true m t (n ∷ p) is event same items later behind = next (has t (n ∷ p)) refl later
    where
      next : (b : Bool) → has t (n ∷ p) ≡ b → AreWaited (put (choose b (n ∷ front t p) []) ++ Happens event ∷ items)
          → IsWaited m.0 (put (choose b (n ∷ front t p) []) ++ Happens event ∷ items)
          × AreWaited (put (choose b (n ∷ front t p) []) ++ Happens event ∷ items)
      next true has_more later = (tt, later)
      next false has_none later = (
        eqb-true m.0 t (on_left (m.0 == t) (ap (λ b. (m.0 == t) || b) (sym has_none) ∙ is)) ∙ same,
        later,
      )
  waited_at false m t p is event same items later behind = behind

  waited_front : (t : ℕ) (p : Waiting T A) (event : Event T A) → t ≡ of_event event → (items : List (Item T A)) → AreWaited items
      → AreWaited (put (front t p) ++ Happens event ∷ items)
  waited_front t [] event same items behind = behind
  waited_front t (m ∷ p) event same items behind =
      waited_at (has t (m ∷ p)) m t p refl event same items (waited_front t p event same items behind) behind

  pub waited : (p : Waiting T A) (items : List (Item T A)) → AreWaited (late_items p items)
  waited p [] = tt
  waited p (Makes t step reply ∷ items) = waited (p ++ (t, step, reply) ∷ []) items
  waited p (Happens event ∷ items) =
      waited_front (of_event event) p event refl (late_items (back (of_event event) p) items) (waited (back (of_event event) p) items)
