use Rattle.std.proofs.Common.{◌≡◌, ◌∷◌, ◌++◌, take}
use Rattle.judge_calls.specs.Recordings.{names_of}
use Rattle.judge_verdicts.specs.ItemLines.{item_lines}
use Rattle.judge_verdicts.proofs.items.write_items.Given as goal

-- so far the lines of the items before this place are behind the first line
abbrev pub invariant-loop-item : goal.invariant-loop-item
invariant-loop-item g l = l.text.items ≡ l.first ++ 10 ∷ item_lines (names_of l.names) (take l.item-index l.items)
