-- Places that hold the values of jobs, or nothing yet.
use Rattle.std.specs.Prelude.{◌≡◌, ◌≢◌, ℕ, ◌<◌, List, Option, Some, length}
use Rattle.std.specs.List.{slice_get}
use Rattle.parallel_map.specs.declared.error.WorkError.{WorkError}
use Rattle.parallel_map.specs.declared.error.WorkError.TheVariants.{NoMemory, Missing, Doubled}
use Rattle.parallel_map.specs.declared.error.WorkError.TheVariants.{Unknown}
use Rattle.parallel_map.specs.RightAnswers.{IsTo}

module _ {V : Type 0} where
  -- each place that holds a value holds the expected one
  pub record HoldRightValues (wanted : List V) (places : List (Option V)) : Type 0 where
    pub each : length places ≡ length wanted
    pub right : (k : ℕ) (value : V) → slice_get places k ≡ Some (Some value)
        → slice_get wanted k ≡ Some value

  -- how many values a place has
  abbrev pub held_in : Option (Option V) → ℕ
  held_in (Some (Some value)) = 1
  held_in _ = 0

  -- how many values there are at a number
  abbrev pub held : List (Option V) → ℕ → ℕ
  held places number = held_in (slice_get places number)

  -- a place got its value
  pub record Places (old : List (Option V)) (number : ℕ) (new : List (Option V)) : Type 0 where
    pub was_empty : held old number ≡ 0
    pub is_filled : held new number ≡ 1
    pub others : (k : ℕ) → k ≢ number → held new k ≡ held old k

  module _ {J : Type 0} where
    -- why an answer isn't put into its place
    pub data IsRefused (jobs : List J) (places : List (Option V)) (answer : ℕ × J)
        : WorkError → Type 0 where
      NoJob : (IsTo jobs answer → ⊥) → IsRefused jobs places answer (Unknown answer.0)
      NotEmpty : IsTo jobs answer → held places answer.0 ≡ 1
          → IsRefused jobs places answer (Doubled answer.0)

    -- why the places don't give the values of all jobs
    pub data Lacks (jobs : List J) (places : List (Option V)) : WorkError → Type 0 where
      NoRoom : Lacks jobs places NoMemory
      FirstEmpty : (number : ℕ) → number < length jobs → held places number ≡ 0
          → ((lower : ℕ) → lower < number → held places lower ≡ 1)
          → Lacks jobs places (Missing number)
