-- What the digits of a printed number are.
use Rattle.std.proofs.Common.{◌≡◌, ℕ, zero, suc, ◌<◌, ◌^◌, Bool, true, false, Option, None, Some, MatchOption, List, [], ◌∷◌, length}
use Rattle.std.proofs.Common.{get_or, eqb, refl, sym, subst, ap, ◌∙◌, arith, rules}
use Rattle.std.specs.Option.{SomeIff}
use Rattle.std.specs.Fmt.{decimal}
use Rattle.std.specs.Str.Parse.{IsNumeral, AllDigits, digits_value}
use Rattle.std.proofs.lemmas.Bool.Decides.{nat_tests}
use Rattle.std.proofs.lemmas.Fmt.{decimal_is_IsNumeral, decimal-digits_value, decimal_digit, first_decimal}
use Rattle.std.proofs.lemmas.Str.Parse.{numerals_by_value, tells_digits}
use Rattle.judge_calls.specs.Texts.{FitsWord}
use Rattle.judge_calls.proofs.CutLemmas.{Without, Lacks, without}

-- digits have no space
digits_lack : (digits : List ℕ) → AllDigits 10 digits → Lacks 32 digits
digits_lack [] all = search rules
digits_lack (c ∷ digits) all = (other (eqb c 32) refl, digits_lack digits all.1)
  where
    other : (b : Bool) → eqb c 32 ≡ b → eqb c 32 ≡ false
    other false e = e
    other true e = absurd (let is : c ≡ 32 = grind (arith, nat_tests) in let digit = rw is at all.0 in omega arith)

-- a printed number has no space
pub decimal_without : (n : ℕ) → FitsWord n → Without 32 (decimal n)
decimal_without n fits = without 32 (decimal n) (digits_lack (decimal n) (decimal_is_IsNumeral n fits).0.1)

-- no printed number has a zero in front
pub no_zero : (n : ℕ) → FitsWord n → (text : List ℕ) → text ≡ decimal n → 1 < length text → get_or text 0 0 ≡ 48 → ⊥
no_zero zero fits text is long front = omega (arith, ap length (is ∙ decimal_digit 0 (omega arith)))
no_zero (suc n) fits text is long front =
    let above = first_decimal (suc n) (omega arith) fits in
    let same : get_or text 0 0 ≡ get_or (decimal (suc n)) 0 0 = ap (λ t. get_or t 0 0) is in
    omega arith

-- a number that isn't 0 nor above 1
one_only : (n : ℕ) → 0 < n → (1 < n → ⊥) → n ≡ 1
one_only zero some never = absurd (omega arith)
one_only (suc zero) some never = refl
one_only (suc (suc n)) some never = absurd (never (omega arith))

-- digits with no zero in front are printed so, of their value
pub printed : (text : List ℕ) (r : Option ℕ) → (1 < length text → get_or text 0 0 ≡ 48 → ⊥)
    → SomeIff r (IsNumeral 10 text × (digits_value 10 text < 2 ^ 64)) (digits_value 10 text)
    → MatchOption r ((n : ℕ) → FitsWord n → ¬ (text ≡ decimal n)) (λ n. (text ≡ decimal n) × FitsWord n)
printed text None front h = λ n fits is.
    let numeral = decimal_is_IsNumeral n fits in
    h (subst (IsNumeral 10) (sym is) numeral.0, subst (λ v. v < 2 ^ 64) (sym (ap (digits_value 10) is ∙ numeral.1)) fits)
printed text (Some n) front h =
    let own = numerals_by_value (AllDigits 10) tells_digits in
    let some = h.0.0.0 in
    let back = decimal-digits_value own text h.0.0.1 some (λ e. one_only (length text) some (λ long. front long e)) h.0.1 in
    (sym back ∙ ap decimal (sym h.1), subst (λ v. v < 2 ^ 64) (sym h.1) h.0.1)
