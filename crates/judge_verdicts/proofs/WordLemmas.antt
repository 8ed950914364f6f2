-- The first word of a line.
use Rattle.std.proofs.Common.{◌≡◌, ℕ, false, List, [], ◌∷◌, ◌++◌, eqb, refl, ap}
use Rattle.std.specs.List.{All}
use Rattle.std.proofs.lemmas.List.Elements.{All-head, All-tail}
use Rattle.judge_verdicts.specs.Kinds.{first_word}

-- no byte is a space
abbrev pub NoSpace : List ℕ → Type 0
NoSpace line = All (λ x. eqb x 32 ≡ false) line

-- a line with no space is one word
pub one_word : (line : List ℕ) → NoSpace line → first_word line ≡ line
one_word [] none = refl
one_word (x ∷ line) none =
    let P : ℕ → Type 0 = λ y. eqb y 32 ≡ false in
    rw (All-head P x line none) (ap (λ l. x ∷ l) (one_word line (All-tail P x line none)))

-- the first word is before the first space
pub word_before : (word rest : List ℕ) → NoSpace word → first_word (word ++ 32 ∷ rest) ≡ word
word_before [] rest none = refl
word_before (x ∷ word) rest none =
    let P : ℕ → Type 0 = λ y. eqb y 32 ≡ false in
    rw (All-head P x word none) (ap (λ l. x ∷ l) (word_before word rest (All-tail P x word none)))
