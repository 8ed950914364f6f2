-- Items, the newest first, split at a place of their events.
use Rattle.std.proofs.Common.{◌≡◌, List, [], ◌∷◌, ◌++◌, refl, sym, ap, ◌∙◌, append_assoc, reverse}
use Rattle.std.proofs.lemmas.List.{reverse-append, reverse-reverse}
use Rattle.judge_calls.specs.declared.event.Event.{Event}
use Rattle.judge_calls.specs.declared.event.Item.{Item}
use Rattle.judge_calls.specs.declared.event.Item.TheVariants.{Happens, Makes}
use Rattle.judge_calls.specs.Explanations.{events_in}
use Rattle.judge_calls.proofs.IdleItemLemmas.{events_reverse}

module _ {T A : Type 0} where
  -- the events of items, the oldest first
  abbrev pub told_by : List (Item T A) → List (Event T A)
  told_by items = reverse (events_in items)

  pub told_all : (past : List (Item T A)) → told_by past ≡ events_in (reverse past)
  told_all past = sym (events_reverse past)

module _ {T A : Type 0} (between : List (Item T A)) where
  -- the newer items, then the items between, then the older ones; with the newest event first
  record Cut (past : List (Item T A)) (newest oldest : List (Event T A)) : Type 0 where
    newer : List (Item T A)
    older : List (Item T A)
    parts : past ≡ newer ++ (between ++ older)
    newer_are : events_in newer ≡ newest
    older_are : events_in older ≡ oldest

  -- the same, with the oldest event first
  pub record Split (past : List (Item T A)) (first others : List (Event T A)) : Type 0 where
    pub newer : List (Item T A)
    pub older : List (Item T A)
    pub parts : past ≡ newer ++ (between ++ older)
    pub older_are : told_by older ≡ first
    pub newer_are : told_by newer ≡ others

  -- so it is with one item more
  cut_step : (past : List (Item T A)) (ys xs : List (Event T A)) (item : Item T A) → events_in (item ∷ []) ≡ [] → Cut past ys xs
      → Cut (item ∷ past) ys xs
  cut_step past ys xs (Happens event) none k = absurd (let no_way : ⊥ = cc in no_way)
  cut_step past ys xs (Makes t s r) none k = record {
    newer = Makes t s r ∷ k.newer;
    older = k.older;
    parts = ap (λ l. Makes t s r ∷ l) k.parts;
    newer_are = k.newer_are;
    older_are = k.older_are;
  }

  cut_event : (past : List (Item T A)) (ys xs : List (Event T A)) (event y : Event T A) → event ≡ y → Cut past ys xs
      → Cut (Happens event ∷ past) (y ∷ ys) xs
  cut_event past ys xs event y same k = record {
    newer = Happens event ∷ k.newer;
    older = k.older;
    parts = ap (λ l. Happens event ∷ l) k.parts;
    newer_are = ap (λ l. event ∷ l) k.newer_are ∙ ap (λ x. x ∷ ys) same;
    older_are = k.older_are;
  }

  -- they are split behind these events, if they are split where the next ones come first
  cut : (rest xs : List (Event T A)) → ((past : List (Item T A)) → events_in past ≡ rest → Cut past [] xs)
      → (past : List (Item T A)) (ys : List (Event T A)) → events_in past ≡ ys ++ rest → Cut past ys xs
  cut rest xs here past [] h = here past h
  cut rest xs here [] (y ∷ ys) h = absurd (let none : ⊥ = cc in none)
  cut rest xs here (Makes t s r ∷ past) (y ∷ ys) h =
      cut_step past (y ∷ ys) xs (Makes t s r) refl (cut rest xs here past (y ∷ ys) h)
  cut rest xs here (Happens event ∷ past) (y ∷ ys) h =
      let others : events_in past ≡ ys ++ rest = cc in
      let same : event ≡ y = cc in
      cut_event past ys xs event y same (cut rest xs here past ys others)

  turned : (past : List (Item T A)) (first others : List (Event T A)) → Cut past (reverse others) (reverse first)
      → Split past first others
  turned past first others k = record {
    newer = k.newer;
    older = k.older;
    parts = k.parts;
    older_are = ap reverse k.older_are ∙ reverse-reverse first;
    newer_are = ap reverse k.newer_are ∙ reverse-reverse others;
  }

module _ {T A : Type 0} where
  -- by the newest event first
  newest_first : (past : List (Item T A)) (first others : List (Event T A)) → told_by past ≡ first ++ others
      → events_in past ≡ reverse others ++ reverse first
  newest_first past first others h =
      sym (reverse-reverse (events_in past)) ∙ ap reverse h ∙ reverse-append first others

  -- items whose events are these and those, the oldest first
  pub split : (past : List (Item T A)) (first others : List (Event T A)) → told_by past ≡ first ++ others
      → Split [] past first others
  split past first others h =
      turned [] past first others
      (cut [] (reverse first) (reverse first)
      (λ past h. record { newer = []; older = past; parts = refl; newer_are = refl; older_are = h })
      past (reverse others) (newest_first past first others h))

  -- the first of these items with an event
  at_event : (event : Event T A) (xs : List (Event T A)) (past : List (Item T A)) → events_in past ≡ event ∷ xs
      → Cut (Happens event ∷ []) past [] xs
  at_event event xs [] h = absurd (let none : ⊥ = cc in none)
  at_event event xs (Makes t s r ∷ past) h =
      cut_step (Happens event ∷ []) past [] xs (Makes t s r) refl (at_event event xs past h)
  at_event event xs (Happens own ∷ past) h =
      let others : events_in past ≡ xs = cc in
      let same : own ≡ event = cc in
      record { newer = []; older = past; parts = ap (λ x. Happens x ∷ past) same; newer_are = refl; older_are = others }

  -- and items split at an event
  pub split_at : (past : List (Item T A)) (first : List (Event T A)) (event : Event T A) (others : List (Event T A))
      → told_by past ≡ first ++ event ∷ others → Split (Happens event ∷ []) past first others
  split_at past first event others h =
      turned (Happens event ∷ []) past first others
      (cut (Happens event ∷ []) (event ∷ reverse first) (reverse first) (at_event event (reverse first)) past (reverse others)
      (newest_first past first (event ∷ others) h ∙ ap (λ l. l ++ reverse first) (reverse-append (event ∷ []) others)
      ∙ append_assoc (reverse others) (event ∷ []) (reverse first)))
