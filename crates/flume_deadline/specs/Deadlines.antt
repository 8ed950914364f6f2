-- The deadline of a call.
use Rattle.std.specs.Prelude.{◌≡◌, ℕ, ◌+◌, ◌<◌}
use Rattle.std.specs.Duration.{as_nanos}
use Rattle.std.specs.declared.time.Duration.{Duration}
use Rattle.std.specs.Time.{instant_nanos, FitsClock}
use Rattle.flume_deadline.specs.declared.Deadline.{Deadline}
use Rattle.flume_deadline.specs.declared.Deadline.TheVariants.{Never, At, Reached}

-- the deadline is this many nanoseconds after the start of the clock
abbrev pub IsAt : Deadline → ℕ → Type 0
IsAt (At time) nanos = instant_nanos time ≡ nanos
IsAt _ nanos = ⊥

-- the deadline is this long after a time of the clock, never if it overflows, or already reached
abbrev pub IsAfter : Duration → Deadline → Type 0
IsAfter timeout (At time) =
    (now : ℕ) × FitsClock now × (instant_nanos time ≡ now + as_nanos timeout)
IsAfter timeout Never = (now : ℕ) × FitsClock now × (FitsClock (now + as_nanos timeout) → ⊥)
IsAfter timeout Reached = Unit {0}

-- the clock can show a time that is before the deadline
abbrev pub CanBeAhead : Deadline → Type 0
CanBeAhead Never = Unit {0}
CanBeAhead (At time) = (now : ℕ) × FitsClock now × (now < instant_nanos time)
CanBeAhead Reached = ⊥
