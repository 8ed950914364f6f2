-- Offers are handed out in the order in which they were made.
use Rattle.flume_model.proofs.Common.{◌≡◌, ℕ, ◌<◌, inl, inr, not, List, [], ◌∷◌, zero, suc, Some, refl, ap, arith, length, cases_lt}
use Rattle.flume_model.proofs.Common.{slice_get, Log, Opening, Offer, offers, withdrawn, kept, handed_out, hand_outs, HandedOutInOrder}
use Rattle.flume_model.proofs.Common.{IsRun}
use Rattle.flume_model.proofs.order.RunLemmas.{placed}
use Rattle.flume_model.proofs.users.FilterPlaceLemmas.{filter_place, at_filter_place, filter_places_rise, place_of_kept}

module _ {X : Type 0} where
  -- within a list there is an element
  some_at : (xs : List X) (j : ℕ) → j < length xs → (x : X) × (slice_get xs j ≡ Some x)
  some_at [] j lt = absurd (omega arith)
  some_at (x ∷ xs) zero lt = (x, refl)
  some_at (x ∷ xs) (suc j) lt = some_at xs j (omega arith)

module _ {T A : Type 0} where
  -- the place of the j-th kept offer among all offers
  abbrev place_in : Log T A → ℕ → ℕ
  place_in log j = filter_place (λ offer. not (withdrawn log offer)) (offers log) j

  -- the offer that a hand-out is of
  is_kept : (o : Opening) (log : Log T A) → IsRun o log → (j : ℕ) → j < hand_outs log
      → (offer : Offer T) × (slice_get (offers log) (place_in log j) ≡ Some offer) × (slice_get (kept log) j ≡ Some offer)
  is_kept o log run j lt =
      let given = some_at (handed_out log) j lt in
      let at = placed o log run j given.0 given.1 in
      (at.0, at_filter_place (λ offer. not (withdrawn log offer)) (offers log) j at.0 at.1, at.1)

  -- what was made first is handed out first
  first_first : (log : Log T A) (j k : ℕ) → place_in log j < place_in log k → j < k
  first_first log j k lt =
      elim (cases_lt j k) as (λ _. j < k) [
        | inl less ↦ less
        | inr le ↦ elim (cases_lt k j) as (λ _. j < k) [
          | inl more ↦ (let rises = filter_places_rise (λ offer. not (withdrawn log offer)) (offers log) k j more in absurd (omega arith))
          | inr ge ↦ (let same : j ≡ k = omega arith in let places = ap (place_in log) same in absurd (omega arith))
        ]
      ]

  -- offers are handed out in the order in which they were made
  pub handed_out_in_order : (o : Opening) (log : Log T A) → IsRun o log → HandedOutInOrder log
  handed_out_in_order o log run = record {
    place = place_in log;
    is_kept = is_kept o log run;
    rises = λ j k lt within. filter_places_rise (λ offer. not (withdrawn log offer)) (offers log) j k lt;
    first_made_first = λ j k first second lt. first_first log j k lt;
    none_left_behind = λ i k offer within lt at stays.
        place_of_kept (λ offer. not (withdrawn log offer)) (offers log) i k offer lt at (ap not stays);
  }
