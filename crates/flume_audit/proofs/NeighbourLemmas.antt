-- Receipts that aren't above the one before them.
use Rattle.std.proofs.Common.{◌≡◌, ℕ, ◌-◌, ◌<◌, ◌≤◌, inl, inr, Option, Some, None}
use Rattle.std.proofs.Common.{List, [], ◌∷◌, length, get_or, take, drop, Any, refl, le_of_eq, arith}
use Rattle.std.proofs.lemmas.List.{take_rest}
use Rattle.flume_audit.specs.declared.receipt.Receipt.{Receipt}
use Rattle.flume_audit.specs.Settled.{NotAbove}
use Rattle.flume_audit.specs.Misplaced.{IsLeast, lesser}
use Rattle.flume_audit.proofs.AnyLemmas.{first_is, later_is}
use Rattle.flume_audit.proofs.LeastLemmas.{least_either}

-- a receipt that isn't above the one before it is in the list
pub there_if_not_above : {T A : Type 0} (number : ℕ) (list : List (Receipt T A))
    → NotAbove number list → Any (λ receipt. receipt.number ≡ number) list
there_if_not_above number [] not_above = absurd not_above
there_if_not_above number (x ∷ []) not_above = absurd not_above
there_if_not_above number (x ∷ y ∷ ys) (inl here) =
    later_is (λ receipt. receipt.number ≡ number) x (y ∷ ys)
    (first_is (λ receipt. receipt.number ≡ number) y ys here.0)
there_if_not_above number (x ∷ y ∷ ys) (inr later) =
    later_is (λ receipt. receipt.number ≡ number) x (y ∷ ys)
    (there_if_not_above number (y ∷ ys) later)

-- the receipts from the second on, as a slice gives them
abbrev pub from_second : {T A : Type 0} → List (Receipt T A) → List (Receipt T A)
from_second list = take (length list - 1) (drop 1 list)

-- In a list of two receipts or more, whose second isn't above its first, the least number of a
-- receipt that isn't above the one before it is the lesser of the second's and that of the rest.
pub least_with_second : {T A : Type 0} (list : List (Receipt T A)) (later : Option ℕ)
    (before receipt : Receipt T A) → 2 ≤ length list → before ≡ get_or list 0 before
    → receipt ≡ get_or list 1 receipt → IsLeast (λ number. NotAbove number (from_second list)) later
    → receipt.number ≤ before.number
    → IsLeast (λ number. NotAbove number list) (lesser (Some receipt.number) later)
least_with_second [] later before receipt two first second least le = absurd (omega arith)
least_with_second (x ∷ []) later before receipt two first second least le = absurd (omega arith)
least_with_second (x ∷ y ∷ ys) later before receipt two first second least le =
    let le_first : y.number ≤ x.number = rw (← second, ← first) le in
    rw second (least_either (λ number. (y.number ≡ number) × (number ≤ x.number))
    (λ number. NotAbove number (y ∷ ys)) (Some y.number) later
    ((refl, le_first), λ number here. le_of_eq here.0) (rw take_rest at least))

-- If the second is above the first, it is that of the rest.
pub least_of_rest : {T A : Type 0} (list : List (Receipt T A)) (later : Option ℕ)
    (before receipt : Receipt T A) → 2 ≤ length list → before ≡ get_or list 0 before
    → receipt ≡ get_or list 1 receipt → IsLeast (λ number. NotAbove number (from_second list)) later
    → before.number < receipt.number → IsLeast (λ number. NotAbove number list) later
least_of_rest [] later before receipt two first second least above = absurd (omega arith)
least_of_rest (x ∷ []) later before receipt two first second least above = absurd (omega arith)
least_of_rest (x ∷ y ∷ ys) later before receipt two first second least above =
    let above_first : x.number < y.number = rw (← second, ← first) above in
    least_either (λ number. (y.number ≡ number) × (number ≤ x.number))
    (λ number. NotAbove number (y ∷ ys)) None later
    (λ number here. let same : y.number ≡ number = here.0 in let le : number ≤ x.number = here.1 in
    omega arith) (rw take_rest at least)

-- a list of at most one receipt has none that isn't above the one before it
pub none_of_one : {T A : Type 0} (list : List (Receipt T A)) → length list < 2
    → IsLeast (λ number. NotAbove number list) None
none_of_one [] short = λ number not_above. not_above
none_of_one (x ∷ []) short = λ number not_above. not_above
none_of_one (x ∷ y ∷ ys) short = absurd (omega arith)
