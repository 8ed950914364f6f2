-- The lines that are read so far.
use Rattle.std.proofs.Common.{◌≡◌, ℕ, suc, ◌+◌, ◌≤◌, ◌<◌, List, [], ◌∷◌, ◌++◌, length, refl, sym, ap, ◌∙◌, arith}
use Rattle.std.specs.List.{AllZip}
use Rattle.std.specs.Str.Lines.{lines}
use Rattle.std.proofs.lemmas.List.{append_assoc, length_push}
use Rattle.flume_script.specs.Script.{IsNoLine, LinesUpTo}

-- lists that agree place by place are as long
pub length_all_zip : {A B : Type 0} (R : A → B → Type 0) (xs : List A) (ys : List B) → AllZip R xs ys → length xs ≡ length ys
length_all_zip R [] [] all = refl
length_all_zip R [] (y ∷ ys) all = absurd all
length_all_zip R (x ∷ xs) [] all = absurd all
length_all_zip R (x ∷ xs) (y ∷ ys) all = ap suc (length_all_zip R xs ys all.1)

-- two lists that agree place by place, with one more of each at their ends
pub all_zip_push : {A B : Type 0} (R : A → B → Type 0) (xs : List A) (ys : List B) (x : A) (y : B) → AllZip R xs ys → R x y
    → AllZip R (xs ++ x ∷ []) (ys ++ y ∷ [])
all_zip_push R [] [] x y all one = (one, tt)
all_zip_push R [] (y' ∷ ys) x y all one = absurd all
all_zip_push R (x' ∷ xs) [] x y all one = absurd all
all_zip_push R (x' ∷ xs) (y' ∷ ys) x y all one = (all.0, all_zip_push R xs ys x y all.1 one)

module _ {X : Type 0} (IsLine : List ℕ → X → Type 0) where
  -- of the lines of the whole, those before the rest are these
  pub record ReadLines (whole rest : List ℕ) (steps : List X) : Type 0 where
    pub before : List (List ℕ)
    pub parts : lines whole ≡ before ++ lines rest
    pub right : AllZip IsLine before steps
    pub count : length before + length rest ≤ length whole

module _ {X : Type 0} {IsLine : List ℕ → X → Type 0} where
  -- after one more line
  pub one_more : {whole rest : List ℕ} {steps steps' : List X} (line later : List ℕ) (step : X) → ReadLines IsLine whole rest steps
      → lines rest ≡ line ∷ lines later → length later < length rest → IsLine line step → steps' ≡ steps ++ step ∷ []
      → ReadLines IsLine whole later steps'
  one_more {steps = steps} line later step read first shorter is_step pushed = rw pushed (record {
    before = read.before ++ line ∷ [];
    parts = read.parts ∙ ap (λ ls. read.before ++ ls) first ∙ sym (append_assoc read.before (line ∷ []) (lines later));
    right = all_zip_push IsLine read.before steps line step read.right is_step;
    count = omega (arith, length_push read.before line);
  })

  -- at a line that is none
  pub up_to : {whole rest : List ℕ} {steps : List X} {place : ℕ} (line later : List ℕ) → ReadLines IsLine whole rest steps
      → lines rest ≡ line ∷ lines later → length later < length rest → IsNoLine IsLine line → place ≡ length steps
      → LinesUpTo IsLine (lines whole) place × (place < length whole)
  up_to {steps = steps} line later read first shorter wrong at =
      let same = length_all_zip IsLine read.before steps read.right in (
        record {
          before = read.before;
          steps = steps;
          line = line;
          later = lines later;
          parts = read.parts ∙ ap (λ ls. read.before ++ ls) first;
          right = read.right;
          wrong = wrong;
          place_is = same ∙ sym at;
        },
        omega arith,
      )
