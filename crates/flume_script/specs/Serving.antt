-- What a program writes that reads its input to the end and prints one text.
use Rattle.std.specs.Prelude.{◌≡◌, ℕ, ◌⊎◌, List, [], ◌∷◌, ◌++◌, Option, Some, codes}

-- all of this was written and the status is the good one, or the status says that a write failed
abbrev pub Finishes : List ℕ → ℕ → Option (List ℕ) → ℕ → Type 0
Finishes all good written status = ((written ≡ Some all) × (status ≡ good)) ⊎ (status ≡ 4)

-- what is written in all after `before`, and the status: a text of the program, or out of memory
abbrev pub Serves : (List ℕ → ℕ → Type 0) → List ℕ → Option (List ℕ) → ℕ → Type 0
Serves prints before written status =
    ((text : List ℕ) × (good : ℕ) × prints text good
    × Finishes (before ++ text) good written status)
    ⊎ Finishes (before ++ (codes "out of memory" ++ 10 ∷ [])) 3 written status
