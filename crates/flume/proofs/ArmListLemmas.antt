-- The arms of a list of ends, one for each so far.
use Rattle.std.proofs.Common.{◌≡◌, List, [], ◌∷◌, ◌++◌, map, length, refl, sym, ap, ◌∙◌}
use Rattle.std.proofs.lemmas.List.{append-nil}

module _ {X Y Z : Type 0} (f : X → Z) (g : Y → Z) where
  -- one arm more, for the first pair of those that are left
  pub one_arm_more : (arms : List X) (arm : X) (pair : Y) (left : List Y) (all : List Z)
      → map f arms ++ (g pair ∷ map g left) ≡ all → f arm ≡ g pair
      → map f (arms ++ arm ∷ []) ++ map g left ≡ all
  one_arm_more [] arm pair left all so_far same = ap (λ first. first ∷ map g left) same ∙ so_far
  one_arm_more (x ∷ arms) arm pair left all so_far same =
      ap (λ rest. f x ∷ rest) (one_arm_more arms arm pair left (map f arms ++ (g pair ∷ map g left)) refl same)
      ∙ so_far

  -- no pair is left
  pub no_pair_left : (arms : List X) (left : List Y) (all : List Z) → map f arms ++ map g left ≡ all
      → length left ≡ 0 → map f arms ≡ all
  no_pair_left arms [] all so_far none = sym (append-nil (map f arms)) ∙ so_far
  no_pair_left arms (pair ∷ left) all so_far none = absurd (cc none)
