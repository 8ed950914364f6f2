-- Where a text is cut: at the first of some byte.
use Rattle.std.proofs.Common.{◌≡◌, ℕ, Bool, false, List, ◌∷◌, ◌++◌, length, take, eqb, refl, sym, ap, ◌∙◌, eq-eqb}
use Rattle.std.specs.List.{All, AllByRecursion, slice_split}
use Rattle.std.proofs.Math.Seq.{drop-append_seam, take-append_seam}
use Rattle.std.proofs.lemmas.Bool.{false≢true}
use Rattle.std.proofs.lemmas.List.{append_cancel_left}
use Rattle.std.proofs.lemmas.List.Elements.{All-head, All-drop, All-take, All-same, All-from_recursion}
use Rattle.std.proofs.lemmas.List.Splits.{slice_split_at}

-- no byte of the text is this one
abbrev pub Without : ℕ → List ℕ → Type 0
Without byte text = All (λ x. eqb x byte ≡ false) text

-- no byte of the text is this one, by recursion, which a tactic computes of a text that is written out
abbrev pub Lacks : ℕ → List ℕ → Type 0
Lacks byte text = AllByRecursion (λ x. eqb x byte ≡ false) text

-- so it has none
pub without : (byte : ℕ) (text : List ℕ) → Lacks byte text → Without byte text
without byte text lacks = All-from_recursion (λ x. eqb x byte ≡ false) text lacks

-- a text without the byte isn't one with it
pub has_byte : (byte : ℕ) (before later text : List ℕ) → before ++ byte ∷ later ≡ text → Without byte text → ⊥
has_byte byte before later text e none =
    let P : ℕ → Type 0 = λ x. eqb x byte ≡ false in
    let at_byte = All-drop P (length before) (before ++ byte ∷ later) (All-same P (before ++ byte ∷ later) text e none) in
    false≢true (sym (All-head P byte later (rw drop-append_seam at at_byte)) ∙ eq-eqb byte byte refl)

-- two equal texts are equal up to their first such bytes, and after them
pub same_cuts : (byte : ℕ) (before before' later later' : List ℕ) → Without byte before → Without byte before'
    → before ++ byte ∷ later ≡ before' ++ byte ∷ later' → (before ≡ before') × (later ≡ later')
same_cuts byte before before' later later' none none' e =
    let test : ℕ → Bool = λ x. eqb x byte in
    let here = eq-eqb byte byte refl in
    let split = slice_split_at test before byte later none here in
    let split' = slice_split_at test before' byte later' none' here in
    let parts : before ∷ slice_split test later ≡ before' ∷ slice_split test later' = sym split ∙ ap (slice_split test) e ∙ split' in
    let same : before ≡ before' = cc in
    let rest = append_cancel_left before' (byte ∷ later) (byte ∷ later') (ap (λ w. w ++ byte ∷ later) (sym same) ∙ e) in
    (same, cc)

-- what is at the left of a text without the byte
pub without_left : (byte : ℕ) (left right text : List ℕ) → text ≡ left ++ right → Without byte text → Without byte left
without_left byte left right text e none =
    let P : ℕ → Type 0 = λ x. eqb x byte ≡ false in
    All-same P left (take (length left) text) (sym (ap (take (length left)) e ∙ take-append_seam left right))
    (All-take P (length left) text none)
