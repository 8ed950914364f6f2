-- A history is settled exactly if it and the receipts disagree nowhere.
use Rattle.std.proofs.Common.{◌≡◌, ℕ, zero, suc, ◌<◌, ◌≤◌, ◌↔◌, inl, inr, Bool, List, [], ◌∷◌, length, get_or, Any, All, AllPairs, refl}
use Rattle.std.proofs.Common.{sym, ◌∙◌, arith}
use Rattle.std.proofs.lemmas.Bool.{cases_lt, false≢true, true_from_ne_false}
use Rattle.flume_model.specs.declared.step.Step.{Step}
use Rattle.flume_model.specs.declared.step.Reply.{Reply}
use Rattle.flume_audit.specs.declared.receipt.Receipt.{Receipt}
use Rattle.flume_audit.specs.Recorded.{History}
use Rattle.flume_audit.specs.Settled.{NotAbove, DisagreeAt, IsSettled}
use Rattle.flume_audit.proofs.AnyLemmas.{any_at, any_none}

module _ {T A : Type 0} where
  -- the numbers of the list rise
  abbrev pub Rising : List (Receipt T A) → Type 0
  Rising = AllPairs (λ receipt later. receipt.number < later.number)

  -- if the numbers rise, each receipt is above the one before it
  rising_above : (number : ℕ) (list : List (Receipt T A)) → Rising list → NotAbove number list → ⊥
  rising_above number [] rising not_above = not_above
  rising_above number (x ∷ []) rising not_above = not_above
  rising_above number (x ∷ y ∷ ys) rising (inl here) =
      let above : x.number < y.number = rising 0 1 x (omega arith) (omega arith) in
      let same : y.number ≡ number = here.0 in
      let le : number ≤ x.number = here.1 in
      omega arith
  rising_above number (x ∷ y ∷ ys) rising (inr later) = rising_above number (y ∷ ys)
      (λ i j other lt within. rising (suc i) (suc j) other (omega arith) (omega arith)) later

  -- if each receipt is above the one before it, it is above the first
  above_first : (x : Receipt T A) (xs : List (Receipt T A)) (place : ℕ) (other : Receipt T A)
      → ((number : ℕ) → NotAbove number (x ∷ xs) → ⊥) → place < length xs
      → x.number < (get_or xs place other).number
  above_first x [] place other none within = absurd (omega arith)
  above_first x (y ∷ ys) zero other none within = elim (cases_lt x.number y.number) [
    | inl above ↦ above
    | inr le ↦ absurd (none y.number (inl (refl, le)))
  ]
  above_first x (y ∷ ys) (suc place) other none within = elim (cases_lt x.number y.number) [
    | inl above ↦ (let later = above_first y ys place other
        (λ number later. none number (inr later)) (omega arith) in omega (arith, later))
    | inr le ↦ absurd (none y.number (inl (refl, le)))
  ]

  -- the numbers rise if each receipt is above the one before it
  above_rising : (list : List (Receipt T A)) → ((number : ℕ) → NotAbove number list → ⊥)
      → Rising list
  above_rising [] none i j other lt within = absurd (omega arith)
  above_rising (x ∷ xs) none i zero other lt within = absurd (omega arith)
  above_rising (x ∷ xs) none zero (suc j) other lt within =
      above_first x xs j other none (omega arith)
  above_rising (x ∷ []) none (suc i) (suc j) other lt within = absurd (omega arith)
  above_rising (x ∷ y ∷ ys) none (suc i) (suc j) other lt within =
      above_rising (y ∷ ys) (λ number later. none number (inr later)) i j other (omega arith)
      (omega arith)

module _ {T A : Type 0} (equal : Step T × Reply T A → Step T × Reply T A → Bool)
    (history : History T A) (lists : List (List (Receipt T A))) where
  -- a settled history disagrees with the receipts at no number
  settled_agrees : IsSettled equal history lists → (number : ℕ)
      → DisagreeAt equal history lists number → ⊥
  settled_agrees settled number (inl not) = not (settled.once number)
  settled_agrees settled number (inr (inl any)) =
      any_none Rising (NotAbove number) lists (rising_above number) settled.rising any
  settled_agrees settled number (inr (inr past)) =
      any_none (All (λ receipt. receipt.number < length history))
      (Any (λ receipt. length history ≤ receipt.number)) lists
      (λ list. any_none (λ receipt. receipt.number < length history)
      (λ receipt. length history ≤ receipt.number) list (λ receipt lt le. omega arith))
      settled.within past.1

  -- a history that disagrees with them at no number is settled
  agreeing_settles : ((number : ℕ) → DisagreeAt equal history lists number → ⊥)
      → IsSettled equal history lists
  agreeing_settles none = record {
    once = λ number entry at. true_from_ne_false _
        (λ not. none number (inl (λ agree. false≢true (sym not ∙ agree entry at))));
    rising = λ place list within. above_rising (get_or lists place list) (λ number not_above.
        none number (inr (inl (any_at (NotAbove number) lists place list within not_above))));
    within = λ place list within inner receipt inside.
        elim (cases_lt (get_or (get_or lists place list) inner receipt).number (length history)) [
          | inl lt ↦ lt
          | inr past ↦ absurd (none (length history) (inr (inr (
            refl,
            any_at
                (Any (λ receipt. length history ≤ receipt.number)) lists place list within
                (any_at (λ receipt. length history ≤ receipt.number) (get_or lists place list) inner
                receipt inside past),
          ))))
        ];
  }

  -- a history is settled exactly if they disagree at no number
  pub settled_where_none : IsSettled equal history lists
      ↔ ((number : ℕ) → DisagreeAt equal history lists number → ⊥)
  settled_where_none = (settled_agrees, agreeing_settles)
