-- Two lists, merged into one.
use Rattle.std.proofs.Common.{◌≡◌, ℕ, suc, ◌+◌, ◌==◌, Bool, true, false, ◌||◌, List, [], ◌∷◌}
use Rattle.std.proofs.Common.{◌++◌, length, refl, ap, sym, subst, ◌∙◌, arith, if◌then◌else◌}
use Rattle.std.proofs.lemmas.Bool.Decides.{nat_tests}
use Rattle.std.proofs.lemmas.List.Sorted.{IsPermutation-refl, IsPermutation-cons}
use Rattle.std.proofs.lemmas.List.Sorted.{IsPermutation-trans, IsPermutation-append_comm}
use Rattle.std.specs.List.{flat_map, list_all}
use Rattle.std.specs.List.Sorted.{IsPermutation}
use mathlib.Core.List.{IsPrefix}
use Rattle.flume_trace.specs.Positions.{is_among, AreApart, AreBelow}
use Rattle.flume_party.specs.Picks.{picked_from, picked}
use Rattle.flume_party.specs.Interleavings.{Interleaving, End, Left, Right}
use Rattle.flume_party.proofs.PickLemmas.{among_append, picked_prefix}

disjoint_at : (k p : ℕ) (ps qs : List ℕ) → AreApart (p ∷ (ps ++ qs)) → (b : Bool) → (p == k) ≡ b
    → (is_among k ps ≡ true → is_among k qs ≡ false) → (b || is_among k ps) ≡ true
    → is_among k qs ≡ false
disjoint_at k p ps qs apart true is rest here =
    let same : p ≡ k = grind (arith, nat_tests) in
    let gone : (is_among p ps || is_among p qs) ≡ false =
    sym (among_append p ps qs) ∙ apart.0 in
    grind (arith, gone, same)
disjoint_at k p ps qs apart false is rest here = rest here

-- no position is in both of two lists whose positions are apart
disjoint : (k : ℕ) (ps qs : List ℕ) → AreApart (ps ++ qs) → is_among k ps ≡ true
    → is_among k qs ≡ false
disjoint k [] qs apart here = absurd cc
disjoint k (p ∷ ps) qs apart here =
    disjoint_at k p ps qs apart (p == k) refl (disjoint k ps qs apart.1) here

module _ {X : Type 0} where
  interleaved_at : (x : X) (xs ys zs : List X) (a b c : Bool) → (a ≡ true → b ≡ false)
      → c ≡ (a || b) → Interleaving xs ys zs → Interleaving (if a then x ∷ xs else xs)
      (if b then x ∷ ys else ys) (if c then x ∷ zs else zs)
  interleaved_at x xs ys zs true true c either is rest = absurd (cc (either refl))
  interleaved_at x xs ys zs true false c either is rest = rw is (Left rest)
  interleaved_at x xs ys zs false true c either is rest = rw is (Right rest)
  interleaved_at x xs ys zs false false c either is rest = rw is rest

  rest_at : (x : X) (here : Bool) (some all : List X) → (ys : List X) × Interleaving some ys all
      → (ys : List X) × Interleaving (if here then x ∷ some else some) ys (x ∷ all)
  rest_at x true some all rest = (rest.0, Left rest.1)
  rest_at x false some all rest = (x ∷ rest.0, Right rest.1)

  -- what is at some positions, and the rest, are the list
  pub picked_rest : (k : ℕ) (ps : List ℕ) (xs : List X)
      → (ys : List X) × Interleaving (picked_from k ps xs) ys xs
  picked_rest k ps [] = ([], End)
  picked_rest k ps (x ∷ xs) =
      rest_at x (is_among k ps) (picked_from (suc k) ps xs) xs (picked_rest (suc k) ps xs)

  -- what is at two lists of positions is an interleaving of what is at each
  interleaved_from : (k : ℕ) (ps qs : List ℕ) (xs : List X) → AreApart (ps ++ qs)
      → Interleaving (picked_from k ps xs) (picked_from k qs xs) (picked_from k (ps ++ qs) xs)
  interleaved_from k ps qs [] apart = End
  interleaved_from k ps qs (x ∷ xs) apart =
      interleaved_at x _ _ _ (is_among k ps) (is_among k qs) (is_among k (ps ++ qs))
      (disjoint k ps qs apart) (among_append k ps qs) (interleaved_from (suc k) ps qs xs apart)

  -- the same if each list was picked from a beginning
  pub interleaved : (ps qs : List ℕ) (xs ys zs : List X) → AreApart (ps ++ qs)
      → AreBelow (length xs) ps → AreBelow (length ys) qs → IsPrefix xs zs → IsPrefix ys zs
      → Interleaving (picked ps xs) (picked qs ys) (picked (ps ++ qs) zs)
  interleaved ps qs xs ys zs apart a b p q =
      subst (λ (both : List X × List X). Interleaving both.0 both.1 (picked (ps ++ qs) zs))
      (λ i. (picked_prefix ps xs zs a p i, picked_prefix qs ys zs b q i))
      (interleaved_from 0 ps qs zs apart)

  -- the elements of an interleaving pass a test if those of both lists do
  pub interleaved_pass : (test : X → Bool) (xs ys zs : List X) → Interleaving xs ys zs
      → list_all test xs ≡ true → list_all test ys ≡ true → list_all test zs ≡ true
  interleaved_pass test _ _ _ End a b = refl
  interleaved_pass test _ _ _ (Left {x = x} {xs = xs} {ys = ys} {zs = zs} rest) a b =
      grind (arith, interleaved_pass test xs ys zs rest, a, b)
  interleaved_pass test _ _ _ (Right {y = y} {xs = xs} {ys = ys} {zs = zs} rest) a b =
      grind (arith, interleaved_pass test xs ys zs rest, a, b)

  -- a list in front of the first
  left_all : (w xs ys zs : List X) → Interleaving xs ys zs → Interleaving (w ++ xs) ys (w ++ zs)
  left_all [] xs ys zs rest = rest
  left_all (x ∷ w) xs ys zs rest = Left (left_all w xs ys zs rest)

  -- a list in front of the second
  right_all : (w xs ys zs : List X) → Interleaving xs ys zs → Interleaving xs (w ++ ys) (w ++ zs)
  right_all [] xs ys zs rest = rest
  right_all (x ∷ w) xs ys zs rest = Right (right_all w xs ys zs rest)

  -- the lists of an interleaving, each joined to one
  pub interleaved_joined : (xs ys zs : List (List X)) → Interleaving xs ys zs
      → Interleaving (flat_map (λ w. w) xs) (flat_map (λ w. w) ys) (flat_map (λ w. w) zs)
  interleaved_joined _ _ _ End = End
  interleaved_joined _ _ _ (Left {x = x} {xs = xs} {ys = ys} {zs = zs} rest) =
      left_all x _ _ _ (interleaved_joined xs ys zs rest)
  interleaved_joined _ _ _ (Right {y = y} {xs = xs} {ys = ys} {zs = zs} rest) =
      right_all y _ _ _ (interleaved_joined xs ys zs rest)

  -- an interleaving has as many elements as both lists
  pub interleaved_length : (xs ys zs : List X) → Interleaving xs ys zs
      → length zs ≡ length xs + length ys
  interleaved_length _ _ _ End = refl
  interleaved_length _ _ _ (Left {xs = xs} {ys = ys} {zs = zs} rest) =
      omega (arith, interleaved_length xs ys zs rest)
  interleaved_length _ _ _ (Right {xs = xs} {ys = ys} {zs = zs} rest) =
      omega (arith, interleaved_length xs ys zs rest)

  -- a list merged with none is itself
  pub interleaved_alone : (xs zs : List X) → Interleaving xs [] zs → zs ≡ xs
  interleaved_alone _ _ End = refl
  interleaved_alone _ _ (Left {x = x} {xs = xs} {zs = zs} rest) =
      ap (λ list. x ∷ list) (interleaved_alone xs zs rest)

  -- the two lists in the other order
  pub interleaved_swap : (xs ys zs : List X) → Interleaving xs ys zs → Interleaving ys xs zs
  interleaved_swap _ _ _ End = End
  interleaved_swap _ _ _ (Left {xs = xs} {ys = ys} {zs = zs} rest) =
      Right (interleaved_swap xs ys zs rest)
  interleaved_swap _ _ _ (Right {xs = xs} {ys = ys} {zs = zs} rest) =
      Left (interleaved_swap xs ys zs rest)

  -- an interleaving has the elements of both lists
  pub interleaved_permutes : (xs ys zs : List X) → Interleaving xs ys zs
      → IsPermutation (xs ++ ys) zs
  interleaved_permutes _ _ _ End = IsPermutation-refl []
  interleaved_permutes _ _ _ (Left {x = x} {xs = xs} {ys = ys} {zs = zs} rest) =
      IsPermutation-cons x (xs ++ ys) zs (interleaved_permutes xs ys zs rest)
  interleaved_permutes _ _ _ (Right {y = y} {xs = xs} {ys = ys} {zs = zs} rest) =
      let swapped = IsPermutation-append_comm ys xs in
      let later = IsPermutation-trans (ys ++ xs) (xs ++ ys) zs swapped
      (interleaved_permutes xs ys zs rest) in
      IsPermutation-trans (xs ++ y ∷ ys) (y ∷ (ys ++ xs)) (y ∷ zs)
      (IsPermutation-append_comm xs (y ∷ ys)) (IsPermutation-cons y (ys ++ xs) zs later)
