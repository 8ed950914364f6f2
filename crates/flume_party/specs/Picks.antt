-- The elements of a list at some positions.
use Rattle.std.specs.Prelude.{◌≡◌, ◌<◌, ℕ, suc, Bool, true, List, [], ◌∷◌, length, if◌then◌else◌}
use Rattle.std.specs.List.{list_all}
use Rattle.flume_trace.specs.Positions.{is_among, AreBelow}

module _ {X : Type 0} where
  -- of elements whose positions begin at k, those at the positions ps, in the order of the list
  abbrev pub picked_from : ℕ → List ℕ → List X → List X
  picked_from k ps [] = []
  picked_from k ps (x ∷ xs) =
      if is_among k ps then x ∷ picked_from (suc k) ps xs else picked_from (suc k) ps xs

  -- the elements at the positions ps
  abbrev pub picked : List ℕ → List X → List X
  picked ps xs = picked_from 0 ps xs

-- what a party keeps of what it did: `amount` is its share's, `seen` and `ps` are its claim's
pub record Matches {E : Type 0} (is_owned : E → Bool) (amount : ℕ) (seen : List (List E))
    (ps : List ℕ) : Type 0 where
  -- it has as many positions as its share says
  pub number : length ps ≡ amount
  -- they are of writes that the claim has seen
  pub below : AreBelow (length seen) ps
  -- these writes have owners
  pub owned : list_all (list_all is_owned) (picked ps seen) ≡ true

-- a party has at least one part, and keeps what it did
pub record HasParts {E : Type 0} (is_owned : E → Bool) (parts amount : ℕ) (seen : List (List E))
    (ps : List ℕ) : Type 0 where
  pub some : 0 < parts
  pub did : Matches is_owned amount seen ps
