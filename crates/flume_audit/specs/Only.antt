-- The only element of a list.
use Rattle.std.specs.Prelude.{List, [], ◌∷◌, Option, None, Some}

module _ {X : Type 0} where
  -- the element of a list of one
  abbrev pub only : List X → Option X
  only (one ∷ []) = Some one
  only _ = None
