-- Lists merged into one: what each element makes, and what each counts.
use Rattle.std.proofs.Common.{◌≡◌, ℕ, ◌+◌, Bool, true, false, not, List, [], ◌∷◌, ◌++◌, refl, ap}
use Rattle.std.proofs.Common.{sym, subst, ◌∙◌, arith}
use Rattle.std.proofs.lemmas.Grind.{reverse_onto, flat_map-append}
use Rattle.std.proofs.lemmas.List.{append-nil}
use Rattle.std.specs.Prelude.{reverse}
use Rattle.std.specs.List.{flat_map, filter}
use Rattle.flume_party.specs.Interleavings.{Interleaving, End, Left, Right}
use Rattle.flume_party.proofs.InterleavingLemmas.{interleaved_alone, interleaved_swap}
use Rattle.flume_laws.specs.Together.{Interleaved}

-- one if so
abbrev pub bit : Bool → ℕ
bit true = 1
bit false = 0

module _ {X : Type 0} where
  -- how much the elements count, together
  abbrev pub tally : (X → ℕ) → List X → ℕ
  tally count [] = 0
  tally count (x ∷ xs) = count x + tally count xs

  -- of two lists
  pub tally_append : (count : X → ℕ) (xs ys : List X)
      → tally count (xs ++ ys) ≡ tally count xs + tally count ys
  tally_append count [] ys = omega arith
  tally_append count (x ∷ xs) ys = omega (arith, tally_append count xs ys)

  -- of the list in the other order
  pub tally_reverse : (count : X → ℕ) (xs : List X) → tally count (reverse xs) ≡ tally count xs
  tally_reverse count [] = refl
  tally_reverse count (x ∷ xs) =
      ap (tally count) (reverse_onto xs x [])
      ∙ (tally_append count (reverse xs) (x ∷ []) ∙ omega (arith, tally_reverse count xs))

  -- of an interleaving
  pub tally_merged : (count : X → ℕ) (xs ys zs : List X) → Interleaving xs ys zs
      → tally count zs ≡ tally count xs + tally count ys
  tally_merged count _ _ _ End = refl
  tally_merged count _ _ _ (Left {x = x} {xs = xs} {ys = ys} {zs = zs} rest) =
      omega (arith, tally_merged count xs ys zs rest)
  tally_merged count _ _ _ (Right {y = y} {xs = xs} {ys = ys} {zs = zs} rest) =
      omega (arith, tally_merged count xs ys zs rest)

  -- a list in front of the first
  pub left_all : (w xs ys zs : List X) → Interleaving xs ys zs → Interleaving (w ++ xs) ys (w ++ zs)
  left_all [] xs ys zs rest = rest
  left_all (x ∷ w) xs ys zs rest = Left (left_all w xs ys zs rest)

  -- a list in front of the second
  pub right_all : (w xs ys zs : List X) → Interleaving xs ys zs → Interleaving xs (w ++ ys) (w ++ zs)
  right_all [] xs ys zs rest = rest
  right_all (x ∷ w) xs ys zs rest = Right (right_all w xs ys zs rest)

  -- the elements that a test leaves out, and the others
  pub filter_merged : (test : X → Bool) (xs : List X)
      → Interleaving (filter (λ x. not (test x)) xs) (filter test xs) xs
  filter_merged test [] = End
  filter_merged test (x ∷ xs) = by_case (test x) refl (filter_merged test xs)
    where
      by_case : (b : Bool) → test x ≡ b → Interleaving (filter (λ x. not (test x)) xs) (filter test xs) xs
          → Interleaving (filter (λ x. not (test x)) (x ∷ xs)) (filter test (x ∷ xs)) (x ∷ xs)
      by_case true is rest = rw is (Right rest)
      by_case false is rest = rw is (Left rest)

  -- an empty list may be left out
  pub leave_out : (lists : List (List X)) (line : List X) → Interleaved ([] ∷ lists) line
      → Interleaved lists line
  leave_out lists line merged =
      subst (Interleaved lists) (sym (interleaved_alone merged.0 line
      (interleaved_swap [] merged.0 line merged.2))) merged.1

module _ {X Y : Type 0} where
  -- what the last element makes comes last
  pub flat_reverse : (f : X → List Y) (x : X) (xs : List X)
      → flat_map f (reverse (x ∷ xs)) ≡ flat_map f (reverse xs) ++ f x
  flat_reverse f x xs =
      ap (flat_map f) (reverse_onto xs x [])
      ∙ (flat_map-append f (reverse xs) (x ∷ [])
      ∙ ap (λ more. flat_map f (reverse xs) ++ more) (append-nil (f x)))

  -- what the elements of an interleaving make is an interleaving of what those of both lists make
  pub flat_merged : (f : X → List Y) (xs ys zs : List X) → Interleaving xs ys zs
      → Interleaving (flat_map f xs) (flat_map f ys) (flat_map f zs)
  flat_merged f _ _ _ End = End
  flat_merged f _ _ _ (Left {x = x} {xs = xs} {ys = ys} {zs = zs} rest) =
      left_all (f x) _ _ _ (flat_merged f xs ys zs rest)
  flat_merged f _ _ _ (Right {y = y} {xs = xs} {ys = ys} {zs = zs} rest) =
      right_all (f y) _ _ _ (flat_merged f xs ys zs rest)
