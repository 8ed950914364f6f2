-- Which answers are right, and which error others bring.
use Rattle.std.specs.Prelude.{◌≡◌, ◌==◌, ℕ, ◌<◌, ◌≤◌, List, [], ◌∷◌, ◌++◌, length, map, Some, All}
use Rattle.std.specs.Prelude.{Option, count_by}
use Rattle.std.specs.List.{slice_get}
use Rattle.std.specs.Iterator.{Yields, Drains}
use Rattle.parallel_map.specs.declared.error.WorkError.{WorkError}
use Rattle.parallel_map.specs.declared.error.WorkError.TheVariants.{NoMemory, NoThread, Missing}
use Rattle.parallel_map.specs.declared.error.WorkError.TheVariants.{Doubled, Unknown}

module _ {J : Type 0} where
  -- the list has this job under this number
  abbrev pub IsTo : List J → ℕ × J → Type 0
  IsTo jobs answer = slice_get jobs answer.0 ≡ Some answer.1

  -- how many of these answers have the number
  abbrev pub times : ℕ → List (ℕ × J) → ℕ
  times number some = count_by (λ answer. answer.0 == number) some

  -- each of these answers is to a job of the list, and no two have the same
  pub record AreRight (jobs : List J) (some : List (ℕ × J)) : Type 0 where
    pub known : All (IsTo jobs) some
    pub once : (number : ℕ) → times number some ≤ 1

  -- and each job of the list has one of them
  pub record AreComplete (jobs : List J) (some : List (ℕ × J)) : Type 0 where
    pub right : AreRight jobs some
    pub each : (number : ℕ) → number < length jobs → times number some ≡ 1

  -- an error that some answers to these jobs can bring
  abbrev pub CanBring : List J → WorkError → Type 0
  CanBring jobs NoMemory = Unit {0}
  CanBring jobs NoThread = ⊥
  CanBring jobs (Missing number) = number < length jobs
  CanBring jobs (Doubled number) = number < length jobs
  CanBring jobs (Unknown number) = (job : J) × (IsTo jobs (number, job) → ⊥)

module _ {I R J : Type 0} (steps : I → Option R → I → Type 0) (at : R → ℕ × J) where
  -- the error that an iterator's answers bring
  pub data Brings (jobs : List J) (answers : I) : WorkError → Type 0 where
    OutOfMemory : Brings jobs answers NoMemory
    IsUnknown : (before : List R) (last : R) (rest : I)
        → Yields steps answers (before ++ last ∷ []) rest → AreRight jobs (map at before)
        → (IsTo jobs (at last) → ⊥) → Brings jobs answers (Unknown (at last).0)
    IsDoubled : (before : List R) (last : R) (rest : I)
        → Yields steps answers (before ++ last ∷ []) rest → AreRight jobs (map at before)
        → IsTo jobs (at last) → times (at last).0 (map at before) ≡ 1
        → Brings jobs answers (Doubled (at last).0)
    IsMissing : (all : List R) (number : ℕ) → Drains steps answers all
        → AreRight jobs (map at all) → number < length jobs → times number (map at all) ≡ 0
        → ((lower : ℕ) → lower < number → times lower (map at all) ≡ 1)
        → Brings jobs answers (Missing number)
