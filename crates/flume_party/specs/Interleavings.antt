-- Two lists, merged into one.
use Rattle.std.specs.Prelude.{List, [], ◌∷◌}

-- the third list has the elements of the first two, those of each in their order
pub data Interleaving {X : Type 0} : List X → List X → List X → Type 0 where
  End : Interleaving [] [] []
  Left : {x : X} {xs ys zs : List X} → Interleaving xs ys zs → Interleaving (x ∷ xs) ys (x ∷ zs)
  Right : {y : X} {xs ys zs : List X} → Interleaving xs ys zs → Interleaving xs (y ∷ ys) (y ∷ zs)
