-- Each message that came back was blocked behind these and before those.
use Rattle.flume_model.proofs.Common.{rules, ◌≡◌, ℕ, true, List, [], ◌∷◌, ◌++◌, refl, Offer}
use Rattle.test_model.proofs.blocked.blocked_rows_are_runs.Goals as goal

first : (x : Offer ℕ) (later : List (Offer ℕ))
    → (true ≡ true) × (before : List (Offer ℕ)) × (after : List (Offer ℕ)) × (x ∷ later ≡ before ++ x ∷ after)
first x later = (refl, [], later, refl)

second : (w x : Offer ℕ) (later : List (Offer ℕ))
    → (true ≡ true) × (before : List (Offer ℕ)) × (after : List (Offer ℕ)) × (w ∷ x ∷ later ≡ before ++ x ∷ after)
second w x later = (refl, w ∷ [], later, refl)

pub returns-clause-blocked_comes_back : goal.returns-clause-blocked_comes_back
returns-clause-blocked_comes_back c = search (rules, first)

pub returns-clause-withdrawn_from_middle : goal.returns-clause-withdrawn_from_middle
returns-clause-withdrawn_from_middle c =
    (search rules, (search rules, (search rules, (search rules, (search rules, (search rules, search (rules, second)))))))
