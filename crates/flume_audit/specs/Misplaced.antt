-- The least number at which the receipts of a list disagree by their numbers alone.
use Rattle.std.specs.Prelude.{◌≡◌, ℕ, ◌≤◌, ◌⊎◌, Option, None, Some, List, Any, min}
use Rattle.flume_audit.specs.declared.receipt.Receipt.{Receipt}
use Rattle.flume_audit.specs.Settled.{NotAbove}

-- the least number with a property
abbrev pub IsLeast : (ℕ → Type 0) → Option ℕ → Type 0
IsLeast Is (Some least) = Is least × ((number : ℕ) → Is number → least ≤ number)
IsLeast Is None = (number : ℕ) → Is number → ⊥

-- the lesser of two numbers
abbrev pub lesser : Option ℕ → Option ℕ → Option ℕ
lesser (Some first) (Some second) = Some (min first second)
lesser (Some first) None = Some first
lesser None second = second

module _ {T A : Type 0} where
  -- a receipt with this number isn't above the one before it, or one is past the end
  abbrev pub Misplaced : ℕ → ℕ → List (Receipt T A) → Type 0
  Misplaced end number list =
      NotAbove number list ⊎ ((number ≡ end) × Any (λ receipt. end ≤ receipt.number) list)
