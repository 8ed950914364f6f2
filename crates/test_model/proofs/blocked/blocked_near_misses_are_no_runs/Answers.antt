-- No such message is blocked under such a ticket, at any place; and a message that came back was blocked.
use Rattle.flume_model.proofs.Common.{rules, true, refl, Some, ◌≡◌, ℕ, List, [], ◌∷◌, ◌++◌, Offer}
use Rattle.test_model.proofs.blocked.blocked_near_misses_are_no_runs.Goals as goal

none_blocked : (x : Offer ℕ) (before after : List (Offer ℕ)) → [] ≡ before ++ x ∷ after → ⊥
none_blocked x [] after h = cc
none_blocked x (b ∷ before) after h = cc

other_blocked : (before after : List (Offer ℕ))
    → record { message = 1; ticket = Some 1 } ∷ record { message = 2; ticket = Some 2 } ∷ []
    ≡ before ++ record { message = 2; ticket = Some 1 } ∷ after
    → ⊥
other_blocked [] after h = search rules
other_blocked (b ∷ []) after h = search rules
other_blocked (b ∷ d ∷ before) after h = search (rules, none_blocked)

only : (x : Offer ℕ) → (true ≡ true) × (before : List (Offer ℕ)) × (after : List (Offer ℕ)) × (x ∷ [] ≡ before ++ x ∷ after)
only x = (refl, [], [], refl)

pub returns-clause-returned_after_accepted : goal.returns-clause-returned_after_accepted
returns-clause-returned_after_accepted c = (search rules, λ h. none_blocked _ h.0.0.1 h.0.0.2 h.0.0.3)

pub returns-clause-another_withdrawn : goal.returns-clause-another_withdrawn
returns-clause-another_withdrawn c = (search rules, λ h. other_blocked h.0.0.1 h.0.0.2 h.0.0.3)

pub returns-clause-ticket_issued_again : goal.returns-clause-ticket_issued_again
returns-clause-ticket_issued_again c = (search (rules, only), search rules)

pub returns-clause-withdrawn_handed_out : goal.returns-clause-withdrawn_handed_out
returns-clause-withdrawn_handed_out c = (search (rules, only), search rules)
