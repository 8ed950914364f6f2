-- The elements of a list from a place on.
use Rattle.std.proofs.Common.{◌≡◌, ℕ, ◌+◌, ◌<◌, ◌≤◌, List, [], ◌∷◌, length, map, drop, get_or, sym, add-one, drop-cons}
use Rattle.std.proofs.Math.ListN.{drop_of_length-le}

module _ {X Y : Type 0} (what : X → Y) (list : List X) (place : ℕ) where
  -- from a place on come the element there and those after it
  pub from_here : (x : X) → place < length list → x ≡ get_or list place x
      → map what (drop place list) ≡ what x ∷ map what (drop (place + 1) list)
  from_here x within at = rw (add-one, drop-cons list place x, sym at)

  -- from the end on comes none
  pub from_end : length list ≤ place → map what (drop place list) ≡ []
  from_end past = rw (drop_of_length-le list past)
