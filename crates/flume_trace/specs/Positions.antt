-- Positions of a trace, counted from 0.
use Rattle.std.specs.Prelude.{◌≡◌, ℕ, suc, ◌<◌, ◌==◌, Bool, false, ◌||◌, List, [], ◌∷◌}

-- whether the position is in the list
abbrev pub is_among : ℕ → List ℕ → Bool
is_among k [] = false
is_among k (p ∷ ps) = (p == k) || is_among k ps

-- each position is below the bound
abbrev pub AreBelow : ℕ → List ℕ → Type 0
AreBelow n [] = Unit {0}
AreBelow n (p ∷ ps) = (p < n) × AreBelow n ps

-- no position is in the list twice
abbrev pub AreApart : List ℕ → Type 0
AreApart [] = Unit {0}
AreApart (p ∷ ps) = (is_among p ps ≡ false) × AreApart ps

module _ {X : Type 0} where
  -- as many positions as the list has elements, from n on
  abbrev pub positions_from : ℕ → List X → List ℕ
  positions_from n [] = []
  positions_from n (x ∷ xs) = n ∷ positions_from (suc n) xs
