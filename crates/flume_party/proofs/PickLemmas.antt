-- The elements of a list at some positions.
use Rattle.std.proofs.Common.{◌≡◌, ℕ, suc, ◌+◌, ◌≤◌, false, ◌||◌, List, [], ◌∷◌}
use Rattle.std.proofs.Common.{◌++◌, length, refl, ap, sym, ◌∙◌, arith}
use Rattle.std.proofs.lemmas.List.{append-nil}
use Rattle.std.proofs.lemmas.Bool.Decides.{nat_tests}
use mathlib.Core.List.{IsPrefix}
use Rattle.flume_trace.specs.Positions.{is_among, AreBelow}
use Rattle.flume_party.specs.Picks.{picked_from, picked}

-- positions below a bound are below a higher one
pub below_more : (n m : ℕ) (ps : List ℕ) → n ≤ m → AreBelow n ps → AreBelow m ps
below_more n m [] le all = tt
below_more n m (p ∷ ps) le all = (omega (arith, all.0, le), below_more n m ps le all.1)

-- positions of two lists below a bound are below it together
pub below_append : (n : ℕ) (ps qs : List ℕ) → AreBelow n ps → AreBelow n qs → AreBelow n (ps ++ qs)
below_append n [] qs a b = b
below_append n (p ∷ ps) qs a b = (a.0, below_append n ps qs a.1 b)

-- a position past the bound isn't among those below it
pub not_among : (n k : ℕ) (ps : List ℕ) → AreBelow n ps → n ≤ k → is_among k ps ≡ false
not_among n k [] all le = refl
not_among n k (p ∷ ps) all le = grind (arith, nat_tests, not_among n k ps all.1 le, all.0, le)

-- a position is among two lists if it is among one
pub among_append : (k : ℕ) (ps qs : List ℕ)
    → is_among k (ps ++ qs) ≡ (is_among k ps || is_among k qs)
among_append k [] qs = refl
among_append k (p ∷ ps) qs = grind (arith, among_append k ps qs)

module _ {X : Type 0} where
  -- from two lists, one behind the other
  picked_append : (k j : ℕ) (ps : List ℕ) (xs ys : List X) → j ≡ k + length xs
      → picked_from k ps (xs ++ ys) ≡ picked_from k ps xs ++ picked_from j ps ys
  picked_append k j ps [] ys is = ap (λ i. picked_from i ps ys) (omega (arith, is))
  picked_append k j ps (x ∷ xs) ys is =
      grind (arith, picked_append (suc k) j ps xs ys (omega (arith, is)))

  -- nothing is at a position past all
  picked_past : (n k : ℕ) (ps : List ℕ) (xs : List X) → AreBelow n ps → n ≤ k
      → picked_from k ps xs ≡ []
  picked_past n k ps [] all le = refl
  picked_past n k ps (x ∷ xs) all le =
      rw (not_among n k ps all le) (picked_past n (suc k) ps xs all (omega (arith, le)))

  -- a further position picks nothing before it
  picked_before : (k n : ℕ) (ps : List ℕ) (xs : List X) → k + length xs ≤ n
      → picked_from k (ps ++ n ∷ []) xs ≡ picked_from k ps xs
  picked_before k n ps [] le = refl
  picked_before k n ps (x ∷ xs) le = grind (
    arith,
    nat_tests,
    among_append k ps (n ∷ []),
    picked_before (suc k) n ps xs (omega (arith, le)),
    le,
  )

  -- it picks what is there
  picked_last : (n : ℕ) (ps : List ℕ) (x : X) → picked_from n (ps ++ n ∷ []) (x ∷ []) ≡ x ∷ []
  picked_last n ps x = grind (arith, nat_tests, among_append n ps (n ∷ []))

  -- nothing is at no position
  pub picked_none : (xs : List X) → picked [] xs ≡ []
  picked_none xs = picked_past 0 0 [] xs tt (omega arith)

  -- what is picked stays the same as the list grows
  pub picked_prefix : (ps : List ℕ) (xs zs : List X) → AreBelow (length xs) ps → IsPrefix xs zs
      → picked ps zs ≡ picked ps xs
  picked_prefix ps xs zs all p =
      let n : ℕ = length xs in
      ap (λ list. picked ps list) (sym p.1)
      ∙ (picked_append 0 n ps xs p.0 (omega arith)
      ∙ (ap (λ rest. picked ps xs ++ rest) (picked_past n n ps p.0 all (omega arith))
      ∙ append-nil (picked ps xs)))

  -- an element more, at a position more
  pub picked_more : (ps : List ℕ) (seen all : List X) (x : X) → AreBelow (length seen) ps
      → IsPrefix seen all
      → picked (ps ++ length all ∷ []) (all ++ x ∷ []) ≡ picked ps seen ++ x ∷ []
  picked_more ps seen all x below p =
      let n : ℕ = length all in
      let qs : List ℕ = ps ++ n ∷ [] in
      picked_append 0 n qs all (x ∷ []) (omega arith)
      ∙ (ap (λ first. first ++ picked_from n qs (x ∷ [])) (picked_before 0 n ps all (omega arith))
      ∙ (ap (λ last. picked ps all ++ last) (picked_last n ps x)
      ∙ ap (λ first. first ++ x ∷ []) (picked_prefix ps seen all below p)))
