-- The lines of items, one behind another.
use Rattle.std.proofs.Common.{◌≡◌, ℕ, ◌+◌, ◌<◌, List, [], ◌∷◌, ◌++◌, length, get_or, take, sym, ap, ◌∙◌}
use Rattle.std.proofs.lemmas.Grind.{take_at_read}
use Rattle.std.proofs.lemmas.List.{append_assoc, append-nil}
use Rattle.judge_calls.specs.declared.event.Item.{Item}
use Rattle.judge_verdicts.specs.ItemLines.{item_line, item_lines}

module _ {A : Type 0} where
  -- one more item at the end
  lines_push : (names : List (List ℕ)) (items : List (Item ℕ A)) (item : Item ℕ A)
      → item_lines names (items ++ item ∷ []) ≡ item_lines names items ++ item_line names item
  lines_push names [] item = append-nil (item_line names item)
  lines_push names (first ∷ items) item =
      ap (λ lines. item_line names first ++ lines) (lines_push names items item)
      ∙ sym (append_assoc (item_line names first) (item_lines names items) (item_line names item))

  -- one more item of a list
  pub lines_more : (names : List (List ℕ)) (items : List (Item ℕ A)) (i : ℕ) (item : Item ℕ A) → i < length items
      → item_lines names (take (i + 1) items) ≡ item_lines names (take i items) ++ item_line names (get_or items i item)
  lines_more names items i item within =
      ap (item_lines names) (take_at_read items i item within).1 ∙ lines_push names (take i items) (get_or items i item)
