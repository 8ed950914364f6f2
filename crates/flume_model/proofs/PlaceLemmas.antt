-- A list at a place: what is there, what is before and behind it, and what is left when it is
-- replaced.
use Rattle.flume_model.proofs.Common.{◌≡◌, ℕ, zero, suc, refl, ◌+◌, ◌<◌, List, ◌∷◌, ◌++◌, length, take, drop, Some, sym, ap}
use Rattle.flume_model.proofs.Common.{◌∙◌, [], arith, ◌⊎◌, inl, inr, drop_more, take-append-drop}
use Rattle.flume_model.proofs.Common.{get_or_from_slice_get, slice_get_within, slice_get}

module _ {X : Type 0} where
  -- a list from a place on, if this element is there
  pub rest_at : (xs : List X) (i : ℕ) (e : X) → slice_get xs i ≡ Some e → drop i xs ≡ e ∷ drop (i + 1) xs
  rest_at xs i e at = drop_more xs i e (slice_get_within xs i e at) ∙ ap (λ y. y ∷ drop (i + 1) xs) (get_or_from_slice_get xs i e e at)

  -- the list around it
  pub split_at : (xs : List X) (i : ℕ) (e : X) → slice_get xs i ≡ Some e → xs ≡ take i xs ++ e ∷ drop (i + 1) xs
  split_at xs i e at = sym (take-append-drop i xs) ∙ ap (λ ys. take i xs ++ ys) (rest_at xs i e at)

  -- what is at a place of two lists, one behind the other, is in the first or in the second
  pub at_either : (xs ys : List X) (j : ℕ) (x : X) → slice_get (xs ++ ys) j ≡ Some x
      → (slice_get xs j ≡ Some x) ⊎ ((k : ℕ) × (j ≡ length xs + k) × (slice_get ys k ≡ Some x))
  at_either [] ys j x e = inr (j, omega arith, e)
  at_either (y ∷ xs) ys zero x e = inl e
  at_either (y ∷ xs) ys (suc j) x e = behind (at_either xs ys j x e)
    where
      behind : (slice_get xs j ≡ Some x) ⊎ ((k : ℕ) × (j ≡ length xs + k) × (slice_get ys k ≡ Some x))
          → (slice_get (y ∷ xs) (suc j) ≡ Some x) ⊎ ((k : ℕ) × (suc j ≡ length (y ∷ xs) + k) × (slice_get ys k ≡ Some x))
      behind (inl here) = inl here
      behind (inr there) = inr (there.0, (let sum = there.1 in omega arith), there.2)

  -- lists with the same front have the same at its places
  pub at_front : (n : ℕ) (xs ys : List X) (j : ℕ) → j < n → take n xs ≡ take n ys → slice_get xs j ≡ slice_get ys j
  at_front zero xs ys j less e = absurd (omega arith)
  at_front (suc n) [] [] j less e = refl
  at_front (suc n) [] (y ∷ ys) j less e = absurd (let none : ⊥ = cc in none)
  at_front (suc n) (x ∷ xs) [] j less e = absurd (let none : ⊥ = cc in none)
  at_front (suc n) (x ∷ xs) (y ∷ ys) zero less e = cc
  at_front (suc n) (x ∷ xs) (y ∷ ys) (suc j) less e =
      let others : take n xs ≡ take n ys = cc in
      at_front n xs ys j (omega arith) others
