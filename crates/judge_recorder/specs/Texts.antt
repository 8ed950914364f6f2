-- The text of a recording whose threads are named by their numbers.
use Rattle.std.specs.Prelude.{ℕ, Option, Some, None, List, [], ◌∷◌, ◌++◌, codes}
use Rattle.std.specs.List.{flat_map}
use Rattle.std.specs.Fmt.{decimal}
use Rattle.judge_calls.specs.declared.event.Event.{Event}
use Rattle.judge_calls.specs.declared.event.Event.TheVariants.{Begins, Returns}
use Rattle.judge_calls.specs.EventLines.{begins_line, returns_line}
use Rattle.judge_calls.specs.Texts.{call_text, answer_text}

-- a line with the byte that ends it
abbrev pub whole_line : List ℕ → List ℕ
whole_line line = line ++ 10 ∷ []

-- the line that opens a channel of this capacity, or of none
abbrev pub opening_text : Option ℕ → List ℕ
opening_text None = whole_line (codes "unbounded")
opening_text (Some capacity) = whole_line (codes "bounded " ++ decimal capacity)

module _ {A : Type 0} where
  -- the line of an event
  abbrev pub line_text : Event ℕ A → List ℕ
  line_text (Begins thread call) = whole_line (begins_line (decimal thread) (call_text call))
  line_text (Returns thread answer) =
      whole_line (returns_line (decimal thread) (answer_text answer))

  -- the opening line, and then the line of each event, in order
  abbrev pub recording_text : Option ℕ → List (Event ℕ A) → List ℕ
  recording_text capacity events = opening_text capacity ++ flat_map line_text events
