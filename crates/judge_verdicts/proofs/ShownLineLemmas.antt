-- Answers, one behind another.
use Rattle.std.proofs.Common.{◌≡◌, ℕ, ◌+◌, ◌<◌, List, [], ◌∷◌, ◌++◌, length, get_or, take, codes, sym, ap, ◌∙◌}
use Rattle.std.proofs.lemmas.Grind.{take_at_read}
use Rattle.std.proofs.lemmas.List.{append_assoc, append-nil}
use Rattle.judge_calls.specs.declared.call.Answer.{Answer}
use Rattle.judge_calls.specs.Texts.{answer_text}
use Rattle.judge_verdicts.specs.CallsText.{or_text}

module _ {A : Type 0} where
  -- one more answer at the end
  or_push : (answers : List (Answer ℕ A)) (answer : Answer ℕ A)
      → or_text (answers ++ answer ∷ []) ≡ or_text answers ++ (codes " or " ++ answer_text answer)
  or_push [] answer = ap (λ text. codes " or " ++ text) (append-nil (answer_text answer))
  or_push (first ∷ answers) answer =
      ap (λ texts. codes " or " ++ (answer_text first ++ texts)) (or_push answers answer)
      ∙ ap (λ texts. codes " or " ++ texts) (sym (append_assoc (answer_text first) (or_text answers) (codes " or " ++ answer_text answer)))

  -- one more answer of a list
  pub or_more : (answers : List (Answer ℕ A)) (i : ℕ) (answer : Answer ℕ A) → i < length answers
      → or_text (take (i + 1) answers) ≡ or_text (take i answers) ++ (codes " or " ++ answer_text (get_or answers i answer))
  or_more answers i answer within =
      ap or_text (take_at_read answers i answer within).1 ∙ or_push (take i answers) (get_or answers i answer)
