-- When the messages of the three workers arrived in order.
use Rattle.std.specs.Prelude.{◌≡◌, ℕ, ◌<◌, ◌==◌, List, filter, map, All}
use Rattle.std.specs.List.{range_with_len}

-- the numbers that this worker sent, in the order in which they came
abbrev pub numbers_of : ℕ → List (ℕ × ℕ) → List ℕ
numbers_of worker pairs = map (λ pair. pair.1) (filter (λ pair. pair.0 == worker) pairs)

-- the numbers from 1 to 100
abbrev pub one_to_hundred : List ℕ
one_to_hundred = range_with_len 1 100

-- each pair is of worker 0, 1 or 2, and those of each have the numbers 1 to 100, in this order
pub record IsInOrder (pairs : List (ℕ × ℕ)) : Type 0 where
  pub workers : All (λ pair. pair.0 < 3) pairs
  pub numbers : (worker : ℕ) → worker < 3 → numbers_of worker pairs ≡ one_to_hundred
