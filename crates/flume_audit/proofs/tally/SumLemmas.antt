-- What becomes of the sums of a ledger's rows if one row has more.
use Rattle.std.proofs.Common.{◌≡◌, ℕ, ◌+◌, ◌<◌, List, ◌∷◌, arith}
use Rattle.std.specs.Sync.Ledger.{parts_of, amount_of, IsBacked, IsBalanced}

-- the row with this much more
abbrev pub raised : ℕ → ℕ × ℕ → ℕ × ℕ
raised weight x = (x.0, x.1 + weight)

-- the later rows have the parts of the earlier ones and this much more, and stay backed
abbrev pub Outweighs : ℕ → List (ℕ × ℕ) → List (ℕ × ℕ) → Type 0
Outweighs weight earlier later =
    (parts_of later ≡ parts_of earlier)
    × (amount_of later ≡ amount_of earlier + weight)
    × (IsBacked earlier → IsBacked later)

-- the first row has more, and it has a part
pub first_raised : (weight : ℕ) (x z : ℕ × ℕ) (rows : List (ℕ × ℕ))
    → 0 < x.0 → x ≡ z → Outweighs weight (z ∷ rows) (raised weight x ∷ rows)
first_raised weight x z rows some same =
    let parts : x.0 ≡ z.0 = λ j. (same j).0 in
    let amount : x.1 ≡ z.1 = λ j. (same j).1 in
    (omega arith, omega arith, λ backed. (λ none. absurd (omega arith), backed.1))

-- the rows behind the first have more
pub rest_raised : (weight : ℕ) (z : ℕ × ℕ) (earlier later : List (ℕ × ℕ))
    → Outweighs weight earlier later → Outweighs weight (z ∷ earlier) (z ∷ later)
rest_raised weight z earlier later more =
    let parts = more.0 in
    let amount = more.1 in
    (omega arith, omega arith, λ backed. (backed.0, more.2 backed.1))

-- rows that were in balance are in balance at a total with as much more
pub raised_balanced : (weight parts old total : ℕ) (earlier later : List (ℕ × ℕ))
    → total ≡ old → Outweighs weight earlier later → IsBalanced parts (old, earlier)
    → IsBalanced parts (total + weight, later)
raised_balanced weight parts old total earlier later same more balanced =
    let kept_parts = more.0 in
    let more_amount = more.1 in
    let all_parts = balanced.0 in
    let all_amount = balanced.1 in
    (omega arith, omega arith, more.2 balanced.2)
