-- If each send of such messages has returned, no thread has one open.
use Rattle.std.proofs.Common.{◌≡◌, ℕ, ◌==◌, Bool, true, false, if◌then◌else◌, List, [], ◌∷◌, ◌++◌, Option, Some}
use Rattle.std.proofs.Common.{None, refl, sym, ap, ◌∙◌, append_assoc, reverse}
use Rattle.std.proofs.lemmas.Bool.{and_parts, eqb-true}
use Rattle.std.proofs.lemmas.List.{reverse-append}
use Rattle.flume_model.specs.declared.step.Reply.{Reply}
use Rattle.judge_calls.specs.declared.call.Call.{Call}
use Rattle.judge_calls.specs.declared.event.Event.{Event}
use Rattle.judge_calls.specs.declared.event.Event.TheVariants.{Begins, Returns}
use Rattle.judge_calls.specs.declared.event.Item.{Item}
use Rattle.judge_calls.specs.declared.event.Item.TheVariants.{Happens, Makes}
use Rattle.judge_calls.specs.declared.stage.Stage.{Stage}
use Rattle.judge_calls.specs.declared.stage.Stage.TheVariants.{Begun}
use Rattle.judge_calls.specs.Explanations.{events_in, after_reply, open_call}
use Rattle.judge_calls.specs.Patterns.{sends, returns_in, all_returned}
use Rattle.judge_calls.proofs.OffersMadeLemmas.{IsOther, AreOthers}

-- a choice of true or another one is false if the test and the other one are
choice_from : (b c : Bool) → b ≡ false → c ≡ false → (if b then true else c) ≡ false
choice_from true c h k = h
choice_from false c h k = k

-- and only then
choice_parts : (b c : Bool) → (if b then true else c) ≡ false → (b ≡ false) × (c ≡ false)
choice_parts true c h = absurd (let none : ⊥ = cc in none)
choice_parts false c h = (refl, h)

module _ {T A : Type 0} (such : T → Bool) where
  -- a thread's open call, if it has one, began at one of the events, the oldest first, and hasn't returned in those behind it
  abbrev IsOpened : List (Event T A) → ℕ → Option (Call T × Stage T A) → Type 0
  IsOpened events t None = Unit {0}
  IsOpened events t (Some current) = (before : List (Event T A)) × (after : List (Event T A))
      × (events ≡ before ++ Begins t current.0 ∷ after) × (returns_in t after ≡ false)

  returns_more : (t : ℕ) (xs ys : List (Event T A)) → returns_in t xs ≡ false → returns_in t ys ≡ false → returns_in t (xs ++ ys) ≡ false
  returns_more t [] ys h k = k
  returns_more t (Begins u c ∷ xs) ys h k = returns_more t xs ys h k
  returns_more t (Returns u recorded ∷ xs) ys h k =
      let apart = choice_parts (u == t) (returns_in t xs) h in
      choice_from (u == t) (returns_in t (xs ++ ys)) apart.0 (returns_more t xs ys apart.1 k)

  opened_more : (t : ℕ) (event : Event T A) (events : List (Event T A)) (current : Option (Call T × Stage T A))
      → returns_in t (event ∷ []) ≡ false → IsOpened (reverse events) t current → IsOpened (reverse (event ∷ events)) t current
  opened_more t event events None none h = tt
  opened_more t event events (Some current) none h = (
    h.0,
    h.1 ++ event ∷ [],
    reverse-append (event ∷ []) events ∙ ap (λ l. l ++ event ∷ []) h.2 ∙ append_assoc h.0 (Begins t current.0 ∷ h.1) (event ∷ []),
    returns_more t h.1 (event ∷ []) h.3 none,
  )

  opened_further : (t : ℕ) (events : List (Event T A)) (r : Reply T A) (current : Option (Call T × Stage T A)) → IsOpened events t current
      → IsOpened events t (after_reply r current)
  opened_further t events r None h = tt
  opened_further t events r (Some current) h = h

  opened : (past : List (Item T A)) (t : ℕ) → IsOpened (reverse (events_in past)) t (open_call past t)
  opened [] t = tt
  opened (Happens (Begins u c) ∷ past) t = by_thread (u == t) refl (opened past t)
    where
      by_thread : (b : Bool) → (u == t) ≡ b → IsOpened (reverse (events_in past)) t (open_call past t)
          → IsOpened (reverse (Begins u c ∷ events_in past)) t (if b then Some (c, Begun) else open_call past t)
      by_thread true is before = (
        reverse (events_in past),
        [],
        reverse-append (Begins u c ∷ []) (events_in past)
            ∙ ap (λ n. reverse (events_in past) ++ Begins n c ∷ []) (eqb-true u t is),
        refl,
      )
      by_thread false is before = opened_more t (Begins u c) (events_in past) (open_call past t) refl before
  opened (Happens (Returns u recorded) ∷ past) t = by_thread (u == t) refl (opened past t)
    where
      by_thread : (b : Bool) → (u == t) ≡ b → IsOpened (reverse (events_in past)) t (open_call past t)
          → IsOpened (reverse (Returns u recorded ∷ events_in past)) t (if b then None else open_call past t)
      by_thread true is before = tt
      by_thread false is before =
          opened_more t (Returns u recorded) (events_in past) (open_call past t) (choice_from (u == t) false is refl) before
  opened (Makes u s r ∷ past) t = by_thread (u == t) (opened past t)
    where
      by_thread : (b : Bool) → IsOpened (reverse (events_in past)) t (open_call past t)
          → IsOpened (reverse (events_in past)) t (if b then after_reply r (open_call past t) else open_call past t)
      by_thread true before = opened_further t (reverse (events_in past)) r (open_call past t) before
      by_thread false before = before

  -- if each send of such a message has returned, this one has
  returned : (t : ℕ) (c : Call T) (before after : List (Event T A)) → all_returned such (before ++ Begins t c ∷ after) ≡ true
      → sends such c ≡ true → returns_in t after ≡ true
  returned t c [] after all sent =
      sym (ap (λ b. if b then returns_in t after else true) sent)
      ∙ (and_parts (if sends such c then returns_in t after else true) (all_returned such after) all).0
  returned t c (Begins u d ∷ before) after all sent =
      returned t c before after
      (and_parts (if sends such d then returns_in u (before ++ Begins t c ∷ after) else true)
      (all_returned such (before ++ Begins t c ∷ after)) all).1 sent
  returned t c (Returns u recorded ∷ before) after all sent = returned t c before after all sent

  -- so none is open
  other_if : (events : List (Event T A)) (t : ℕ) (current : Option (Call T × Stage T A)) → all_returned such events ≡ true
      → IsOpened events t current → IsOther such current
  other_if events t None all h = tt
  other_if events t (Some current) all h = by_case (sends such current.0) refl
    where
      by_case : (b : Bool) → sends such current.0 ≡ b → b ≡ false
      by_case false is = refl
      by_case true is =
          let back = returned t current.0 h.0 h.1 (sym (ap (all_returned such) h.2) ∙ all) is in
          sym back ∙ h.3

  pub all_others : (past : List (Item T A)) → all_returned such (reverse (events_in past)) ≡ true → AreOthers such past
  all_others past all t = other_if (reverse (events_in past)) t (open_call past t) all (opened past t)
