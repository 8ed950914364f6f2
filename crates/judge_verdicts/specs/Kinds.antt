-- Whether an input is a recording.
use Rattle.std.specs.Prelude.{◌==◌, ◌||◌, ℕ, Bool, false, IsTrue, if◌then◌else◌, List, [], ◌∷◌}
use Rattle.std.specs.List.{list_any}
use Rattle.std.specs.Str.Lines.{lines}

-- what is before the first space
abbrev pub first_word : List ℕ → List ℕ
first_word [] = []
first_word (x ∷ line) = if x == 32 then [] else x ∷ first_word line

-- whether some line's first word has a colon
abbrev pub has_colon : List (List ℕ) → Bool
has_colon [] = false
has_colon (line ∷ lines) = list_any (λ x. x == 58) (first_word line) || has_colon lines

-- whether some line behind the first one has such a word
abbrev pub has_colon_behind : List (List ℕ) → Bool
has_colon_behind [] = false
has_colon_behind (first ∷ rest) = has_colon rest

-- the bytes are read as a recording of calls, and else as a history of steps
abbrev pub IsRecording : List ℕ → Type 0
IsRecording input = IsTrue (has_colon_behind (lines input))
