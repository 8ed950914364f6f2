-- The elements of a list up to one that was found.
use Rattle.std.proofs.Common.{◌≡◌, ℕ, ◌+◌, List, [], ◌∷◌, ◌++◌, Some, get_or, take}
use Rattle.std.specs.List.{slice_get}
use Rattle.std.proofs.lemmas.List.{take_more}
use Rattle.std.proofs.lemmas.Option.{get_or_from_slice_get, slice_get_within}

module _ {X : Type 0} where
  -- what was found at a place comes behind what is before it
  pub take_found : (xs : List X) (n : ℕ) (x : X) → slice_get xs n ≡ Some x
      → take (n + 1) xs ≡ take n xs ++ x ∷ []
  take_found xs n x found =
      let is : get_or xs n x ≡ x = get_or_from_slice_get xs n x x found in
      rw is at (take_more xs n x (slice_get_within xs n x found))
