-- The lines that are printed of the items that explain a recording.
use Rattle.std.specs.Prelude.{ℕ, List, [], ◌∷◌, ◌++◌, codes}
use Rattle.flume_model.specs.declared.step.Step.{Step}
use Rattle.flume_script.specs.Script.{step_parts}
use Rattle.flume_script.specs.ReplyTexts.{reply_text}
use Rattle.judge_calls.specs.declared.event.Item.{Item}
use Rattle.judge_calls.specs.declared.event.Item.TheVariants.{Happens, Makes}
use Rattle.judge_calls.specs.EventLines.{event_text, name_of}
use Rattle.judge_calls.specs.Texts.{worded}

-- the text of a step, as a script has it
abbrev pub step_text : Step ℕ → List ℕ
step_text step = worded (step_parts step).0 (step_parts step).1

module _ {A : Type 0} where
  -- the line of an item; that of a step begins with spaces, which no name has
  abbrev pub item_line : List (List ℕ) → Item ℕ A → List ℕ
  item_line names (Happens event) = event_text names event ++ 10 ∷ []
  item_line names (Makes thread step reply) =
      codes "  " ++ name_of names thread ++ codes " makes " ++ step_text step ++ codes " -> "
      ++ reply_text reply ++ 10 ∷ []

  -- the lines of items
  abbrev pub item_lines : List (List ℕ) → List (Item ℕ A) → List ℕ
  item_lines names [] = []
  item_lines names (item ∷ items) = item_line names item ++ item_lines names items
