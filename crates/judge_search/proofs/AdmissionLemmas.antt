-- Blocked sends join the queue one by one while it has room.
use Rattle.std.proofs.Common.{◌≡◌, ℕ, ◌-◌, true, false, List, [], ◌∷◌, length, refl, ap, arith}
use Rattle.judge_search.specs.Configurations.{State}
use Rattle.judge_search.specs.ByPlaces.{admit, admit_of, admit_all, admit_all_of, full_now}

-- none joins a full queue
pub none_joins_full : (c : State) → full_now c ≡ true → admit_all c ≡ c
none_joins_full c full = go c.blocked
  where
    go : (ps : List ℕ) → admit_all_of ps c ≡ c
    go [] = refl
    go (p ∷ later) = rw full refl

-- none joins if none is blocked
pub none_joins : (c : State) → length c.blocked ≡ 0 → admit_all c ≡ c
none_joins c none = go c.blocked none
  where
    go : (ps : List ℕ) → length ps ≡ 0 → admit_all_of ps c ≡ c
    go [] none = refl
    go (p ∷ later) none = absurd (omega arith)

-- one joins, and then the others
pub one_joins : (c : State) → full_now c ≡ false → admit_all (admit c) ≡ admit_all c
one_joins c room = go c.blocked refl
  where
    go : (ps : List ℕ) → c.blocked ≡ ps → admit_all (admit_of ps c) ≡ admit_all_of ps c
    go [] at = ap (λ l. admit_all_of l c) at
    go (p ∷ later) at = rw room refl

-- how many are still blocked then
pub still_blocked : (c : State) → length (admit c).blocked ≡ length c.blocked - 1
still_blocked c = go c.blocked refl
  where
    go : (ps : List ℕ) → c.blocked ≡ ps → length (admit_of ps c).blocked ≡ length ps - 1
    go [] at = rw at refl
    go (p ∷ later) at = omega arith
