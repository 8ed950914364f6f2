-- How one more line is read to an event.
use Rattle.std.specs.Prelude.{◌≡◌, ℕ, ◌<◌, ◌⊎◌, Bool, false, List, [], ◌∷◌, ◌++◌, length}
use Rattle.std.specs.Prelude.{slice_index_or}
use Rattle.judge_calls.specs.declared.event.Event.{Event}
use Rattle.judge_calls.specs.Explanations.{thread_of}
use Rattle.judge_calls.specs.EventLines.{IsEventLine, name_of}
use Rattle.judge_calls.specs.Recordings.{asking_after, IsReadBy}

-- whether the last call of the thread asked for the capacity, by this list
abbrev pub asking_in : List Bool → ℕ → Bool
asking_in asking thread = slice_index_or asking thread false

-- the thread had the name before, or is the next one, whose name is added
abbrev pub IsThreadOf : List (List ℕ) → List ℕ → ℕ → List (List ℕ) → Type 0
IsThreadOf names name thread names' =
    ((thread < length names) × (name_of names thread ≡ name) × (names' ≡ names))
    ⊎ (((t : ℕ) → t < length names → ¬ (name_of names t ≡ name))
    × (thread ≡ length names) × (names' ≡ names ++ name ∷ []))

-- the line is this event; `names` and `asking` are those before it, `names'` and `asking'` after it
pub record IsNextEvent {A : Type 0} (names : List (List ℕ)) (asking : ℕ → Bool) (line : List ℕ)
    (event : Event ℕ A) (names' : List (List ℕ)) (asking' : ℕ → Bool) : Type 0 where
  pub name : List ℕ
  pub numbering : IsThreadOf names name (thread_of event) names'
  pub is_line : IsEventLine names' line event
  pub read_by : IsReadBy asking event
  pub asked : (thread : ℕ) → asking' thread ≡ asking_after asking event thread
