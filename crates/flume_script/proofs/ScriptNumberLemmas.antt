-- What the digits of a number are.
use Rattle.std.proofs.Common.{◌≡◌, ℕ, ◌<◌, ◌^◌, Option, None, Some, MatchOption, List, ◌++◌, sym, subst, ◌∙◌}
use Rattle.std.specs.Str.{IsUtf8}
use Rattle.std.specs.Option.{SomeIff}
use Rattle.std.specs.Str.Parse.{IsNumeral, digits_value}
use Rattle.std.proofs.lemmas.Fmt.{IsAscii-from_digits}
use Rattle.std.proofs.lemmas.Str.{IsUtf8-from_ascii}
use Rattle.std.proofs.lemmas.List.{append_cancel_left}
use Rattle.flume_script.specs.Script.{IsWordWithNumber}

-- a numeral is text
pub numeral_is_text : (digits : List ℕ) → IsNumeral 10 digits → IsUtf8 digits
numeral_is_text digits h = IsUtf8-from_ascii digits (IsAscii-from_digits digits h.1)

-- what follows the word of a line is the number of its call
pub call_number : (line word digits : List ℕ) (r : Option ℕ) → line ≡ word ++ digits
    → SomeIff r (IsNumeral 10 digits × (digits_value 10 digits < 2 ^ 64)) (digits_value 10 digits)
    → MatchOption r ((n : ℕ) → ¬ IsWordWithNumber line word n) (IsWordWithNumber line word)
call_number line word digits None e h = λ n call.
    let same = append_cancel_left word digits call.digits (sym e ∙ call.line_is) in
    h (subst (IsNumeral 10) (sym same) call.numeral, rw (same, call.value) call.fits)
call_number line word digits (Some n) e h =
    record { digits = digits; line_is = e; numeral = h.0.0; value = sym h.1; fits = rw (h.1) h.0.1 }
