-- The numbers of a list that are read so far.
use Rattle.std.proofs.Common.{◌≡◌, ℕ, Option, Some, None, Bor, List, [], ◌∷◌, ◌++◌, refl, sym, ap, ◌∙◌}
use Rattle.std.specs.List.{All}
use Rattle.std.specs.Fmt.{decimal}
use Rattle.std.proofs.lemmas.List.{append_assoc, append-nil}
use Rattle.std.proofs.lemmas.List.Elements.{All-head, All-tail, All-push, All-from_recursion}
use Rattle.flume_script.specs.ReplyTexts.{spaced}
use Rattle.judge_calls.specs.Texts.{FitsWord, behind_space}
use Rattle.judge_calls.proofs.CutLemmas.{Without, has_byte, same_cuts}
use Rattle.judge_calls.proofs.DigitLemmas.{decimal_without}

-- of the whole text, what is before the rest are these numbers; if it is a list, so is the rest
pub record ReadNumbers (whole : List ℕ) (list : List ℕ) (rest : List ℕ) : Type 0 where
  pub parts : whole ≡ spaced list ++ rest
  pub fit : All FitsWord list
  pub others : (all : List ℕ) → All FitsWord all → whole ≡ spaced all
      → (more : List ℕ) × All FitsWord more × (rest ≡ spaced more)

-- one more number at the end
spaced_push : (list : List ℕ) (n : ℕ) → spaced (list ++ n ∷ []) ≡ spaced list ++ 32 ∷ decimal n
spaced_push [] n = ap (λ texts. 32 ∷ texts) (append-nil (decimal n))
spaced_push (first ∷ list) n =
    ap (λ texts. 32 ∷ (decimal first ++ texts)) (spaced_push list n)
    ∙ sym (append_assoc (32 ∷ decimal first) (spaced list) (32 ∷ decimal n))

-- digits and a number that end where a text ends, or at a space, are the same
same_ends : (digits number : List ℕ) (later : Option (Bor (List ℕ))) (more : List ℕ) → Without 32 digits → Without 32 number
    → digits ++ behind_space later ≡ number ++ spaced more → (digits ≡ number) × (behind_space later ≡ spaced more)
same_ends digits number None [] none none' e = (sym (append-nil digits) ∙ e ∙ append-nil number, refl)
same_ends digits number None (m ∷ more) none none' e =
    absurd (has_byte 32 number (decimal m ++ spaced more) digits (sym e ∙ append-nil digits) none)
same_ends digits number (Some text) [] none none' e = absurd (has_byte 32 digits text.now number (e ∙ append-nil number) none')
same_ends digits number (Some text) (m ∷ more) none none' e =
    let same = same_cuts 32 digits number text.now (decimal m ++ spaced more) none none' e in
    (same.0, ap (λ t. 32 ∷ t) same.1)

-- the first of the numbers that are left
pub first_left : (numbers digits : List ℕ) (later : Option (Bor (List ℕ))) → numbers ≡ digits ++ behind_space later → Without 32 digits
    → (more : List ℕ) → All FitsWord more → 32 ∷ numbers ≡ spaced more
    → (n : ℕ) × FitsWord n × (digits ≡ decimal n)
    × ((rest : List ℕ) × All FitsWord rest × (behind_space later ≡ spaced rest))
first_left numbers digits later parts none [] fit e = absurd cc
first_left numbers digits later parts none (m ∷ more) fit e =
    let tail : numbers ≡ decimal m ++ spaced more = cc in
    let fits = All-head FitsWord m more fit in
    let same = same_ends digits (decimal m) later more none (decimal_without m fits) (sym parts ∙ tail) in
    (m, fits, same.0, (more, All-tail FitsWord m more fit, same.1))

-- no number is one of 64 bits
no_numbers : All FitsWord []
no_numbers = All-from_recursion FitsWord [] tt

-- before the first number
pub none_read : (text : List ℕ) → ReadNumbers text [] text
none_read text = record { parts = refl; fit = no_numbers; others = λ all fit e. (all, fit, e) }

-- after one more number
pub one_more : {whole list : List ℕ} (numbers digits : List ℕ) (later : Option (Bor (List ℕ))) (n : ℕ)
    → ReadNumbers whole list (32 ∷ numbers)
    → numbers ≡ digits ++ behind_space later → Without 32 digits → digits ≡ decimal n → FitsWord n
    → ReadNumbers whole (list ++ n ∷ []) (behind_space later)
one_more {whole} {list} numbers digits later n read parts none is fits = record {
  parts = read.parts ∙ ap (λ t. spaced list ++ 32 ∷ t) (parts ∙ ap (λ d. d ++ behind_space later) is)
      ∙ sym (append_assoc (spaced list) (32 ∷ decimal n) (behind_space later))
      ∙ ap (λ t. t ++ behind_space later) (sym (spaced_push list n));
  fit = All-push FitsWord list n read.fit fits;
  others = λ all fit e.
      let more = read.others all fit e in
      (first_left numbers digits later parts none more.0 more.1 more.2).3;
}

-- if the first of the numbers that are left is none, the whole is no list
pub no_number : {whole list : List ℕ} (numbers digits : List ℕ) (later : Option (Bor (List ℕ))) → ReadNumbers whole list (32 ∷ numbers)
    → numbers ≡ digits ++ behind_space later → Without 32 digits → ((n : ℕ) → FitsWord n → ¬ (digits ≡ decimal n))
    → (all : List ℕ) → All FitsWord all → ¬ (whole ≡ spaced all)
no_number numbers digits later read parts none never all fit e =
    let more = read.others all fit e in
    let first = first_left numbers digits later parts none more.0 more.1 more.2 in
    never first.0 first.1 first.2
