-- The message that came back was the only one blocked.
use Rattle.flume_model.proofs.Common.{rules, arith, ◌≡◌, ℕ, true, List, [], ◌∷◌, ◌++◌, refl, Offer}
use denote.RawPtr.{null_ptr}
use Rattle.test_model.proofs.parked.parked_rows_are_runs.Goals as goal

only : (x : Offer ℕ)
    → (true ≡ true) × (before : List (Offer ℕ)) × (after : List (Offer ℕ)) × (x ∷ [] ≡ before ++ x ∷ after)
only x = (refl, [], [], refl)

pub returns-clause-tickets_of_a_side : goal.returns-clause-tickets_of_a_side
returns-clause-tickets_of_a_side c = search (rules, only)

pub returns-clause-some_list : goal.returns-clause-some_list
returns-clause-some_list c = (
  record {
    ptr = null_ptr;
    len = 2;
    cap = 2;
    alloc = tt;
    items = 1 ∷ 2 ∷ [];
    ok = (refl, omega arith);
    small = omega arith;
  },
  refl,
)
