-- The message that came back was the only one blocked.
use Rattle.flume_model.proofs.Common.{rules, ◌≡◌, ℕ, true, List, [], ◌∷◌, ◌++◌, refl, Offer}
use Rattle.test_model.proofs.capacity.capacity_rows_are_runs.Goals as goal

only : (x : Offer ℕ)
    → (true ≡ true) × (before : List (Offer ℕ)) × (after : List (Offer ℕ)) × (x ∷ [] ≡ before ++ x ∷ after)
only x = (refl, [], [], refl)

pub returns-clause-closed_keeps_capacity : goal.returns-clause-closed_keeps_capacity
returns-clause-closed_keeps_capacity c = search (rules, only)
