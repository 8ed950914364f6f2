-- What is printed of the bytes of a recording.
use Rattle.std.specs.Prelude.{◌≡◌, ◌==◌, ℕ, ◌+◌, ◌⊎◌, List, [], ◌∷◌, ◌++◌, length, take}
use Rattle.std.specs.Prelude.{Bool, MatchBool, Option, codes}
use Rattle.std.specs.List.{All}
use Rattle.std.specs.Fmt.{decimal}
use Rattle.std.specs.Str.Lines.{lines}
use Rattle.flume_model.specs.Log.{opens}
use Rattle.judge_calls.specs.declared.call.Answer.{Answer}
use Rattle.judge_calls.specs.declared.event.Event.{Event}
use Rattle.judge_calls.specs.declared.event.Event.TheVariants.{Begins, Returns}
use Rattle.judge_calls.specs.declared.event.Item.{Item}
use Rattle.judge_calls.specs.Explanations.{events_in, thread_of, IsExplained}
use Rattle.judge_calls.specs.Descriptions.{DescribeExplanation}
use Rattle.judge_calls.specs.declared.fault.Fault.{Fault}
use Rattle.judge_calls.specs.declared.fault.Fault.TheVariants.{NoOpening, NoEvent, NoCall}
use Rattle.judge_calls.specs.declared.fault.Fault.TheVariants.{NoAnswer}
use Rattle.judge_calls.specs.Recordings.{IsRecordingText, IsFirstWrongEvent}
use Rattle.judge_calls.specs.Texts.{answer_text, call_text}
use Rattle.judge_verdicts.specs.ItemLines.{item_lines}
use Rattle.judge_verdicts.specs.Turns.{IsRecordingOf, IsOutOfTurn}

-- what is printed at a line
abbrev pub line_text : ℕ → List ℕ → List ℕ
line_text number rest = codes "line " ++ decimal number ++ codes ": " ++ rest ++ 10 ∷ []

-- what is printed of a wrong line
abbrev pub fault_text : Fault → List ℕ
fault_text NoOpening = codes "not an opening"
fault_text NoEvent = codes "not an event"
fault_text NoCall = codes "not a call"
fault_text NoAnswer = codes "not an answer"

module _ {A : Type 0} where
  -- the events are explained on a new channel of this capacity
  abbrev pub AreExplained : Option ℕ → List (Event ℕ A) → Type 0
  AreExplained capacity events = IsExplained (λ x y. x == y) (opens capacity 1) events

  -- the recorded text of an event: the call, or the answer
  abbrev pub recorded_text : Event ℕ A → List ℕ
  recorded_text (Begins thread call) = call_text call
  recorded_text (Returns thread answer) = answer_text answer

  -- answers, with ` or ` before each
  abbrev pub or_text : List (Answer ℕ A) → List ℕ
  or_text [] = []
  or_text (answer ∷ answers) = codes " or " ++ answer_text answer ++ or_text answers

  -- answers that are possible in place of another one
  abbrev pub but_text : List (Answer ℕ A) → List ℕ
  but_text [] = []
  but_text (answer ∷ answers) = codes ", but " ++ answer_text answer ++ or_text answers

  -- after these events, the thread's call could have returned this
  abbrev pub IsPossible : Option ℕ → List (Event ℕ A) → ℕ → Answer ℕ A → Type 0
  IsPossible capacity before thread answer =
      AreExplained capacity (before ++ Returns thread answer ∷ [])

-- each line is right and in turn, and the events are explained
pub record PrintsCorrect (A : Type 0) (input text : List ℕ) (status : ℕ) : Type 0 where
  pub capacity : Option ℕ
  pub events : List (Event ℕ A)
  pub names : List (List ℕ)
  pub reads : IsRecordingOf (lines input) capacity events names
  pub explained : AreExplained capacity events
  pub text_is : text ≡ codes "correct" ++ 10 ∷ []
  pub status_is : status ≡ 0

-- the same; the text is the first line, and then a line for each item of an explanation
pub record PrintsSteps (A : Type 0) (input text : List ℕ) (status : ℕ) : Type 0 where
  pub first : List ℕ
  pub rest : List (List ℕ)
  pub lines_are : lines input ≡ first ∷ rest
  pub capacity : Option ℕ
  pub events : List (Event ℕ A)
  pub names : List (List ℕ)
  pub reads : IsRecordingOf (lines input) capacity events names
  pub items : List (Item ℕ A)
  pub events_are : events_in items ≡ events
  pub explains : DescribeExplanation (λ x y. x == y) (opens capacity 1) items
  pub text_is : text ≡ first ++ 10 ∷ item_lines names items
  pub status_is : status ≡ 0

-- the text names the first event with which they aren't explained, and answers possible there
pub record PrintsWrongEvent (A : Type 0) (input text : List ℕ) (status : ℕ) : Type 0 where
  pub capacity : Option ℕ
  pub before : List (Event ℕ A)
  pub event : Event ℕ A
  pub later : List (Event ℕ A)
  pub names : List (List ℕ)
  pub reads : IsRecordingOf (lines input) capacity (before ++ event ∷ later) names
  pub explained : AreExplained capacity before
  pub not_with_next : ¬ AreExplained capacity (before ++ event ∷ [])
  pub answers : List (Answer ℕ A)
  pub possible : All (IsPossible capacity before (thread_of event)) answers
  pub text_is :
      text ≡ line_text (length before + 2) (recorded_text event ++ but_text answers)
  pub status_is : status ≡ 1

-- the events aren't explained: the text names a line before which they are
pub record PrintsWrongLater (A : Type 0) (input text : List ℕ) (status : ℕ) : Type 0 where
  pub capacity : Option ℕ
  pub events : List (Event ℕ A)
  pub names : List (List ℕ)
  pub reads : IsRecordingOf (lines input) capacity events names
  pub count : ℕ
  pub explained : AreExplained capacity (take count events)
  pub not_all : ¬ AreExplained capacity events
  pub text_is : text ≡ line_text (count + 2) (codes "wrong, here or later")
  pub status_is : status ≡ 1

-- the limit was reached: the text names a line before which the events are explained
pub record PrintsUndecided (A : Type 0) (input text : List ℕ) (status : ℕ) : Type 0 where
  pub capacity : Option ℕ
  pub events : List (Event ℕ A)
  pub names : List (List ℕ)
  pub reads : IsRecordingOf (lines input) capacity events names
  pub count : ℕ
  pub explained : AreExplained capacity (take count events)
  pub text_is : text ≡ line_text (count + 2) (codes "not decided")
  pub status_is : status ≡ 6

-- a line is wrong: the text names the first one, and says why
pub record PrintsFault (A : Type 0) (input text : List ℕ) (status : ℕ) : Type 0 where
  pub line : ℕ
  pub fault : Fault
  pub wrong : IsFirstWrongEvent A (lines input) line fault
  pub text_is : text ≡ line_text line (fault_text fault)
  pub status_is : status ≡ 2

-- each line is right: the text names the first one that is out of turn
pub record PrintsOutOfTurn (A : Type 0) (input text : List ℕ) (status : ℕ) : Type 0 where
  pub capacity : Option ℕ
  pub events : List (Event ℕ A)
  pub names : List (List ℕ)
  pub reads : IsRecordingText (lines input) capacity events names
  pub place : ℕ
  pub wrong : IsOutOfTurn events place
  pub text_is : text ≡ line_text (place + 2) (codes "out of turn")
  pub status_is : status ≡ 2

-- this text, with the steps if `with_steps`, and this status are the result for these bytes
abbrev pub JudgesCalls : Type 0 → Bool → List ℕ → List ℕ → ℕ → Type 0
JudgesCalls A with_steps input text status =
    MatchBool with_steps (PrintsSteps A input text status) (PrintsCorrect A input text status)
    ⊎ (PrintsWrongEvent A input text status ⊎ (PrintsUndecided A input text status
    ⊎ (PrintsFault A input text status ⊎ (PrintsOutOfTurn A input text status
    ⊎ PrintsWrongLater A input text status))))
