-- Capacities and counts: when a queue is full, and when a channel is open.
use Rattle.std.specs.Prelude.{◌≡◌, ◌==◌, ℕ, ◌-◌, ◌<◌, ◌≤◌, ◌^◌, Bool, false, min, nat_le, Option}
use Rattle.std.specs.Prelude.{Some, None}

-- there is a capacity
abbrev pub IsBounded : Option ℕ → Type 0
IsBounded None = ⊥
IsBounded (Some capacity) = Unit {0}

-- one more message fits a queue of this length
abbrev pub HasRoom : Option ℕ → ℕ → Type 0
HasRoom None n = Unit {0}
HasRoom (Some capacity) n = n < capacity

-- a queue of this length has reached the capacity
abbrev pub IsAtCapacity : Option ℕ → ℕ → Type 0
IsAtCapacity None n = ⊥
IsAtCapacity (Some capacity) n = capacity ≤ n

-- whether a queue of this length has reached the capacity
abbrev pub is_full : Option ℕ → ℕ → Bool
is_full None n = false
is_full (Some capacity) n = nat_le capacity n

-- there is a sender and a receiver, if there are this many of each
abbrev pub IsOpen : ℕ → ℕ → Type 0
IsOpen senders receivers = 0 < min senders receivers

-- all senders or all receivers have been dropped
abbrev pub IsClosed : ℕ → ℕ → Type 0
IsClosed senders receivers = min senders receivers ≡ 0

-- whether all senders or all receivers have been dropped
abbrev pub is_closed : ℕ → ℕ → Bool
is_closed senders receivers = min senders receivers == 0

-- the greatest ticket, which is never issued, and the greatest count
abbrev pub most : ℕ
most = 2 ^ 64 - 1
