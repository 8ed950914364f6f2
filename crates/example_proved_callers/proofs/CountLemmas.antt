-- A sum of ones is a length.
use Rattle.std.proofs.Common.{◌≡◌, ◌+◌, List, [], ◌∷◌, length, refl, sym, ◌∙◌, ap, ap₂, arith}
use Rattle.std.proofs.lemmas.List.Sums.{sum_by-cons}
use Rattle.std.specs.Prelude.{sum_by}

-- as many ones as elements
pub ones : {X : Type 0} (xs : List X) → sum_by (λ x. 1) xs ≡ length xs
ones [] = refl
ones (x ∷ xs) = sum_by-cons (λ x. 1) x xs ∙ ap (λ n. 1 + n) (ones xs) ∙ (let same : 1 + length xs ≡ length (x ∷ xs) = omega arith in same)

-- as many ones as elements of all lists
pub all_ones : {X : Type 0} (lists : List (List X)) → sum_by (λ xs. sum_by (λ x. 1) xs) lists ≡ sum_by length lists
all_ones [] = refl
all_ones (xs ∷ lists) =
    sum_by-cons (λ xs. sum_by (λ x. 1) xs) xs lists ∙ ap₂ (λ n m. n + m) (ones xs) (all_ones lists)
    ∙ sym (sum_by-cons length xs lists)
