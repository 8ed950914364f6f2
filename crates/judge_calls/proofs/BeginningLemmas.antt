-- A beginning of explained events is explained.
use Rattle.std.proofs.Common.{◌≡◌, ℕ, ◌<◌, ◌≤◌, Bool, true, false, List, [], ◌∷◌, ◌++◌, ◌⊎◌, inl, inr, refl}
use Rattle.std.proofs.Common.{sym, ap, ◌∙◌, subst, length, take, reverse, length-append, arith}
use Rattle.std.proofs.Math.Dec.{leb}
use Rattle.std.proofs.lemmas.Bool.Decides.{leb_tells}
use Rattle.std.proofs.lemmas.List.{reverse-append, append-nil, take_all, take-append-le}
use Rattle.flume_model.specs.Log.{Opening}
use Rattle.judge_calls.specs.declared.event.Event.{Event}
use Rattle.judge_calls.specs.declared.event.Item.{Item}
use Rattle.judge_calls.specs.declared.event.Item.TheVariants.{Happens, Makes}
use Rattle.judge_calls.specs.Explanations.{events_in, IsExplanation, IsExplained}
use Rattle.judge_calls.proofs.UniqueLemmas.{run_before, events_append}

module _ {T A : Type 0} (equal : T → T → Bool) where
  -- items, the newest first, without the later ones: those are left that have the first n events
  abbrev Cut : List (Item T A) → ℕ → Type 0
  Cut past n = (later : List (Item T A)) × (before : List (Item T A)) × (past ≡ later ++ before)
      × (events_in (reverse before) ≡ take n (events_in (reverse past)))

  newest : (item : Item T A) (past : List (Item T A))
      → events_in (reverse (item ∷ past)) ≡ events_in (reverse past) ++ events_in (item ∷ [])
  newest item past = ap events_in (reverse-append (item ∷ []) past) ∙ events_append equal (reverse past) (item ∷ [])

  cut : (past : List (Item T A)) (n : ℕ) → Cut past n
  cut [] n = ([], [], refl, sym (take_all n [] (omega arith)))
  cut (Makes t s reply ∷ past) n =
      let k = cut past n in (
        Makes t s reply ∷ k.0,
        k.1,
        ap (λ l. Makes t s reply ∷ l) k.2,
        k.3 ∙ ap (take n) (sym (newest (Makes t s reply) past ∙ append-nil (events_in (reverse past)))),
      )
  cut (Happens event ∷ past) n = by_length (leb_tells n (length (events_in (reverse past)))) (cut past n)
    where
      by_length : ((leb n (length (events_in (reverse past))) ≡ true) × (n ≤ length (events_in (reverse past))))
          ⊎ ((leb n (length (events_in (reverse past))) ≡ false) × (length (events_in (reverse past)) < n))
          → Cut past n → Cut (Happens event ∷ past) n
      by_length (inl h) k = (
        Happens event ∷ k.0,
        k.1,
        ap (λ l. Happens event ∷ l) k.2,
        k.3 ∙ sym (ap (take n) (newest (Happens event) past) ∙ take-append-le n (events_in (reverse past)) (event ∷ []) h.1),
      )
      by_length (inr h) k = (
        [],
        Happens event ∷ past,
        refl,
        sym (take_all n (events_in (reverse (Happens event ∷ past)))
            (subst (λ l. length l ≤ n) (sym (newest (Happens event) past))
            (let one = length-append (events_in (reverse past)) (event ∷ []) in let less = h.1 in omega arith))),
      )

  pub older : (o : Opening) (later before : List (Item T A)) → IsExplanation equal o (later ++ before) → IsExplanation equal o before
  older o [] before x = x
  older o (item ∷ later) before x =
      older o later before (record { calls = x.calls.1; run = run_before equal o item (later ++ before) x.run })

  pub beginning_explained : (o : Opening) (events : List (Event T A)) (n : ℕ) → IsExplained equal o events
      → IsExplained equal o (take n events)
  beginning_explained o events n h =
      let k = cut h.0 n in
      (k.1, k.3 ∙ ap (take n) h.1, older o k.0 k.1 (subst (IsExplanation equal o) k.2 h.2))
