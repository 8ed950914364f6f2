-- Where the word of a line ends, at its first space.
use Rattle.std.proofs.Common.{◌≡◌, ℕ, ◌<◌, ◌^◌, Bool, false, Option, Some, None, List, [], ◌∷◌, ◌++◌, ◌⊎◌, inl, inr, eqb, codes}
use Rattle.std.proofs.Common.{IfSome, MatchOption, refl, sym, subst, ap, ◌∙◌, rules}
use Rattle.std.specs.List.{All, AllByRecursion, slice_split}
use Rattle.std.specs.Str.Parse.{IsNumeral, digits_value}
use Rattle.std.proofs.lemmas.List.{append_cancel_left, append_assoc}
use Rattle.std.proofs.lemmas.List.Elements.{All-from_recursion}
use Rattle.std.proofs.lemmas.List.Splits.{slice_split_at}
use Rattle.flume_model.specs.declared.step.Kind.TheVariants.{Block}
use Rattle.flume_model.specs.declared.step.Step.{Step}
use Rattle.flume_model.specs.declared.step.Step.TheVariants.{TrySend, Recv}
use Rattle.flume_script.specs.Script.{IsLineOf, IsNoLine, IsStepLine, step_parts}

-- no byte is a space
abbrev pub NoSpace : List ℕ → Type 0
NoSpace bytes = All (λ x. eqb x 32 ≡ false) bytes

-- two equal lines are equal up to their first spaces and after them
same_words : (word word' later later' : List ℕ) → NoSpace word → NoSpace word'
    → word ++ 32 ∷ later ≡ word' ++ 32 ∷ later' → (word ≡ word') × (later ≡ later')
same_words word word' later later' none none' e =
    let test : ℕ → Bool = λ x. eqb x 32 in
    let split = slice_split_at test word 32 later none refl in
    let split' = slice_split_at test word' 32 later' none' refl in
    let parts : word ∷ slice_split test later ≡ word' ∷ slice_split test later' = sym split ∙ ap (slice_split test) e ∙ split' in
    let same : word ≡ word' = cc in
    let rest = append_cancel_left word' (32 ∷ later) (32 ∷ later') (ap (λ w. w ++ 32 ∷ later) (sym same) ∙ e) in
    (same, cc)

-- if there is a number, no byte of the word before it is a space, by recursion, which a tactic computes of a text that is written out
abbrev IsNumbered : List ℕ × Option ℕ → Type 0
IsNumbered (word, None) = Unit {0}
IsNumbered (word, Some number) = AllByRecursion (λ x. eqb x 32 ≡ false) word

-- the word of a step with a number has no space
numbered : (step : Step ℕ) → IsNumbered (step_parts step)
numbered step = elim step as (λ s. IsNumbered (step_parts s)) [
  | TrySend n ↦ search rules
  | Recv kind ↦ elim kind as (λ k. IsNumbered (step_parts (Recv k))) [ Block ↦ search rules | _ ↦ search rules ]
  | _ ↦ search rules
]

-- a line with a space is its own word, or has its word before its first space and its number after it
cut : (word later : List ℕ) (parts : List ℕ × Option ℕ) → NoSpace word → IsNumbered parts → IsLineOf (word ++ 32 ∷ later) parts
    → (parts ≡ (word ++ 32 ∷ later, None)) ⊎ ((n : ℕ) × (parts ≡ (word, Some n)) × IsNumeral 10 later × (digits_value 10 later < 2 ^ 64))
cut word later (w, None) none is e = inl (ap (λ l. (l, None)) (sym e))
cut word later (w, Some n) none is call =
    let e = call.line_is ∙ append_assoc w (32 ∷ []) call.digits in
    let same = same_words word w later call.digits none (All-from_recursion (λ x. eqb x 32 ≡ false) w is) e in
    inr (n, ap (λ l. (l, Some n)) (sym same.0), subst (IsNumeral 10) (sym same.1) call.numeral, rw (same.1, call.value) call.fits)

-- a line with a space is no step if none has the line for its word, and none the word and the number
pub no_step : (line word later : List ℕ) → line ≡ word ++ 32 ∷ later → NoSpace word
    → ((step : Step ℕ) → step_parts step ≡ (line, None) → ⊥)
    → ((step : Step ℕ) (n : ℕ) → step_parts step ≡ (word, Some n) → IsNumeral 10 later × (digits_value 10 later < 2 ^ 64) → ⊥)
    → IsNoLine IsStepLine line
no_step line word later is none plain other step call =
    elim (cut word later (step_parts step) none (numbered step) (rw (← is) call)) [
      | inl e ↦ plain step (rw is e)
      | inr (n, e, numeral, fits) ↦ other step n e (numeral, fits)
    ]

-- a line with a space is the step that has its word and number
pub is_step : (line word later : List ℕ) (r : Option (Step ℕ)) → line ≡ word ++ 32 ∷ later → IsNumeral 10 later
    × (digits_value 10 later < 2 ^ 64)
    → (r ≡ None → IsNoLine IsStepLine line) → IfSome r (λ s. step_parts s ≡ (word, Some (digits_value 10 later)))
    → MatchOption r (IsNoLine IsStepLine line) (IsStepLine line)
is_step line word later None is number none e = none refl
is_step line word later (Some s) is number none e =
    rw e (record {
      digits = later;
      line_is = is ∙ sym (append_assoc word (32 ∷ []) later);
      numeral = number.0;
      value = refl;
      fits =
          number.1;
    })
