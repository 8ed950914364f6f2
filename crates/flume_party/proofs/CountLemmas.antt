-- How many elements are at some positions, and when they are all that pass a test.
use Rattle.std.proofs.Common.{◌≡◌, ℕ, suc, ◌+◌, ◌<◌, ◌≤◌, ◌==◌, Bool, true, false}
use Rattle.std.proofs.Common.{List, [], ◌∷◌, length, refl, ap, sym, ◌∙◌, arith}
use Rattle.std.proofs.lemmas.Bool.Decides.{nat_tests}
use Rattle.std.specs.List.{filter, list_all}
use Rattle.flume_trace.specs.Positions.{is_among, AreApart, AreBelow}
use Rattle.flume_party.specs.Picks.{picked_from, picked}
use Rattle.flume_party.proofs.PickLemmas.{picked_none}

module _ {X : Type 0} where
  -- a position that was passed picks nothing
  picked_passed : (k p : ℕ) (ps : List ℕ) (xs : List X) → p < k
      → picked_from k (p ∷ ps) xs ≡ picked_from k ps xs
  picked_passed k p ps [] less = refl
  picked_passed k p ps (x ∷ xs) less =
      grind (arith, nat_tests, picked_passed (suc k) p ps xs (omega (arith, less)), less)

  one_more_at : (k p : ℕ) (ps : List ℕ) (x : X) (xs : List X) → k ≤ p → is_among p ps ≡ false
      → (suc k ≤ p → length (picked_from (suc k) (p ∷ ps) xs)
      ≡ suc (length (picked_from (suc k) ps xs))) → (b : Bool) → (p == k) ≡ b
      → length (picked_from k (p ∷ ps) (x ∷ xs)) ≡ suc (length (picked_from k ps (x ∷ xs)))
  one_more_at k p ps x xs le new rest true is =
      let same : p ≡ k = grind (arith, nat_tests) in
      let gone : is_among k ps ≡ false = ap (λ j. is_among j ps) (sym same) ∙ new in
      let passed = picked_passed (suc k) p ps xs (omega (arith, same)) in
      rw (is, gone) (ap (λ list. suc (length list)) passed)
  one_more_at k p ps x xs le new rest false is =
      let later : suc k ≤ p = grind (arith, nat_tests, le, is) in
      grind (arith, is, rest later)

  -- a further position picks one element more
  one_more : (k p : ℕ) (ps : List ℕ) (xs : List X) → k ≤ p → p < k + length xs
      → is_among p ps ≡ false
      → length (picked_from k (p ∷ ps) xs) ≡ suc (length (picked_from k ps xs))
  one_more k p ps [] le less new = absurd (omega (arith, le, less))
  one_more k p ps (x ∷ xs) le less new = one_more_at k p ps x xs le new
      (λ later. one_more (suc k) p ps xs later (omega (arith, less)) new) (p == k) refl

  -- as many elements are picked as there are positions
  pub picked_length : (ps : List ℕ) (xs : List X) → AreBelow (length xs) ps → AreApart ps
      → length (picked ps xs) ≡ length ps
  picked_length [] xs below apart = ap length (picked_none xs)
  picked_length (p ∷ ps) xs below apart =
      one_more 0 p ps xs (omega arith) (omega (arith, below.0)) apart.0
      ∙ ap suc (picked_length ps xs below.1 apart.1)

  module _ (test : X → Bool) where
    -- of elements that pass a test, no more are picked than there are
    no_more : (k : ℕ) (ps : List ℕ) (xs : List X) → list_all test (picked_from k ps xs) ≡ true
        → length (picked_from k ps xs) ≤ length (filter test xs)
    no_more k ps [] pass = omega arith
    no_more k ps (x ∷ xs) pass = grind (arith, no_more (suc k) ps xs, pass)

    -- if as many are picked as there are, they are all
    pub all_picked : (k : ℕ) (ps : List ℕ) (xs : List X)
        → list_all test (picked_from k ps xs) ≡ true
        → length (picked_from k ps xs) ≡ length (filter test xs)
        → picked_from k ps xs ≡ filter test xs
    all_picked k ps [] pass same = refl
    all_picked k ps (x ∷ xs) pass same =
        grind (arith, all_picked (suc k) ps xs, no_more (suc k) ps xs, pass, same)
