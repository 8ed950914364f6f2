-- How the lines of bytes are read one after another.
use Rattle.std.proofs.Common.{◌≡◌, ℕ, ◌<◌, List, [], ◌∷◌, ◌++◌, length, eqb, false, refl, ap, ◌∙◌, arith}
use Rattle.std.specs.List.{All, slice_split}
use Rattle.std.specs.Str.Lines.{lines, lines_of_parts, strip_carriage_return}
use Rattle.std.proofs.lemmas.Bool.Decides.{nat_tests}
use Rattle.std.proofs.lemmas.List.Splits.{slice_split_at, slice_split_none, length-slice_split}

-- a part that isn't the last is a line, less its carriage return
lines_of_more : (part : List ℕ) (parts : List (List ℕ)) → 0 < length parts
    → lines_of_parts (part ∷ parts) ≡ strip_carriage_return part ∷ lines_of_parts parts
lines_of_more part [] some = absurd (omega arith)
lines_of_more part (next ∷ parts) some = refl

-- a last part that isn't empty is a line
line_of_last : (part : List ℕ) → 0 < length part → lines_of_parts (part ∷ []) ≡ part ∷ []
line_of_last part some = grind (arith, nat_tests)

-- the first line feed ends the first line
pub line_at_feed : (line later : List ℕ) → All (λ x. eqb x 10 ≡ false) line
    → lines (line ++ 10 ∷ later) ≡ strip_carriage_return line ∷ lines later
line_at_feed line later none =
    ap lines_of_parts (slice_split_at (λ b. eqb b 10) line 10 later none refl)
    ∙ lines_of_more line (slice_split (λ b. eqb b 10) later) (omega (arith, length-slice_split (λ b. eqb b 10) later))

-- bytes with no line feed are one line
pub line_at_end : (line : List ℕ) → All (λ x. eqb x 10 ≡ false) line → 0 < length line → lines line ≡ line ∷ []
line_at_end line none some =
    ap lines_of_parts (slice_split_none (λ b. eqb b 10) line none) ∙ line_of_last line some

-- the two ways in which a line ends
pub ruleset next_lines = (line_at_feed, line_at_end)
