-- The places that the elements which a filter keeps have in the list.
use Rattle.flume_model.proofs.Common.{◌≡◌, ℕ, ◌<◌, Bool, true, false, if◌then◌else◌, List, [], ◌∷◌, Some, zero, suc, refl, ◌∙◌, ap, arith}
use Rattle.flume_model.proofs.Common.{filter, slice_get, common_steps}

module _ {X : Type 0} where
  -- the place of the j-th element that the filter keeps
  abbrev pub filter_place : (X → Bool) → List X → ℕ → ℕ
  filter_place keeps [] j = j
  filter_place keeps (x ∷ xs) zero = if keeps x then 0 else suc (filter_place keeps xs zero)
  filter_place keeps (x ∷ xs) (suc j) = suc (filter_place keeps xs (if keeps x then j else suc j))

  -- the j-th element that the filter keeps is there
  pub at_filter_place : (keeps : X → Bool) (xs : List X) (j : ℕ) (x : X) → slice_get (filter keeps xs) j ≡ Some x
      → slice_get xs (filter_place keeps xs j) ≡ Some x
  at_filter_place keeps [] j x e = absurd (let none : ⊥ = cc in none)
  at_filter_place keeps (y ∷ ys) zero x e = grind (arith, common_steps, at_filter_place keeps ys zero x)
  at_filter_place keeps (y ∷ ys) (suc j) x e = grind (arith, common_steps, at_filter_place keeps ys j x, at_filter_place keeps ys (suc j) x)

  -- the places rise
  pub filter_places_rise : (keeps : X → Bool) (xs : List X) (j k : ℕ) → j < k → filter_place keeps xs j < filter_place keeps xs k
  filter_places_rise keeps [] j k lt = lt
  filter_places_rise keeps (y ∷ ys) j zero lt = absurd (omega arith)
  filter_places_rise keeps (y ∷ ys) zero (suc k) lt = grind (arith, common_steps, filter_places_rise keeps ys zero (suc k))
  filter_places_rise keeps (y ∷ ys) (suc j) (suc k) lt =
      grind (arith, common_steps, filter_places_rise keeps ys j k, filter_places_rise keeps ys (suc j) (suc k))

  -- an element that the filter keeps, before one of the places, is at an earlier one of them
  pub place_of_kept : (keeps : X → Bool) (xs : List X) (i k : ℕ) (x : X) → i < filter_place keeps xs k → slice_get xs i ≡ Some x
      → keeps x ≡ true → (j : ℕ) × (j < k) × (filter_place keeps xs j ≡ i)
  place_of_kept keeps [] i k x lt e is = absurd (let none : ⊥ = cc in none)
  place_of_kept keeps (y ∷ ys) zero zero x lt e is =
      let same : y ≡ x = cc in
      let first : keeps y ≡ true = ap keeps same ∙ is in
      absurd (let lt2 = simp first at lt in omega arith)
  place_of_kept keeps (y ∷ ys) zero (suc k) x lt e is =
      let same : y ≡ x = cc in
      let first : keeps y ≡ true = ap keeps same ∙ is in
      (zero, omega arith, simp first refl)
  place_of_kept keeps (y ∷ ys) (suc i) zero x lt e is = grind (arith, common_steps, place_of_kept keeps ys i zero x)
  place_of_kept keeps (y ∷ ys) (suc i) (suc k) x lt e is =
      by_case (keeps y) refl (λ less. place_of_kept keeps ys i k x less e is) (λ less. place_of_kept keeps ys i (suc k) x less e is)
    where
      Place : ℕ → Type 0
      Place n = (j : ℕ) × (j < n) × (filter_place keeps ys j ≡ i)

      next : keeps y ≡ true → (j : ℕ) → filter_place keeps ys j ≡ i → filter_place keeps (y ∷ ys) (suc j) ≡ suc i
      next f j same = simp f (ap suc same)

      later : keeps y ≡ false → (j : ℕ) → filter_place keeps ys j ≡ i → filter_place keeps (y ∷ ys) j ≡ suc i
      later f zero same = simp f (ap suc same)
      later f (suc j) same = simp f (ap suc same)

      by_case : (b : Bool) → keeps y ≡ b → (i < filter_place keeps ys k → Place k)
          → (i < filter_place keeps ys (suc k) → Place (suc k))
          → (j : ℕ) × (j < suc k) × (filter_place keeps (y ∷ ys) j ≡ suc i)
      by_case true f here there =
          let lt2 = simp f at lt in
          let at = here (omega arith) in
          let below = at.1 in
          (suc at.0, omega arith, next f at.0 at.2)
      by_case false f here there =
          let lt2 = simp f at lt in
          let at = there (omega arith) in
          (at.0, at.1, later f at.0 at.2)
