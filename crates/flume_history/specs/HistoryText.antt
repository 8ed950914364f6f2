-- What `check_script` makes of the bytes of a history.
use Rattle.std.specs.Prelude.{◌≡◌, ℕ, ◌+◌, ◌⊎◌, ◌↔◌, List, [], ◌∷◌, ◌++◌, length, reverse}
use Rattle.std.specs.Prelude.{Option, Some, None, codes}
use Rattle.std.specs.Fmt.{decimal}
use Rattle.std.specs.Str.Lines.{lines}
use Rattle.flume_model.specs.declared.step.Step.{Step}
use Rattle.flume_model.specs.declared.step.Reply.{Reply}
use Rattle.flume_model.specs.Channel.{Channel, channel}
use Rattle.flume_model.specs.Log.{Log, opens}
use Rattle.flume_model.specs.Replies.{IsReply, IsRun}
use Rattle.flume_script.specs.ReplyTexts.{reply_text}
use Rattle.flume_script.specs.Program.{Refuses}
use Rattle.flume_script.specs.Script.{IsScript, IsStepLine}
use Rattle.flume_history.specs.Histories.{DescribesLog, IsHistory, BreaksAt}
use Rattle.flume_history.specs.SameRuns.{IsNoMemory}

-- a step, and the text that is recorded of its reply
abbrev pub Pair : Type 0
Pair = Step ℕ × List ℕ

-- the text is that of this reply
abbrev pub IsTextOf : {A : Type 0} → List ℕ → Reply ℕ A → Type 0
IsTextOf text reply = text ≡ reply_text reply

-- the line is this step, ` -> ` and this text of its reply
pub record IsPairLine (line : List ℕ) (pair : Pair) : Type 0 where
  pub step_text : List ℕ
  pub is_step : IsStepLine step_text pair.0
  pub line_is : line ≡ step_text ++ codes " -> " ++ pair.1

-- the text is that of a reply that is lawful there
abbrev pub IsLawfulText : (A : Type 0) → Channel ℕ → Step ℕ → List ℕ → Type 0
IsLawfulText A c step text = (reply : Reply ℕ A) × IsReply c step reply × IsTextOf text reply

-- one text, or two with ` or ` between them
abbrev pub joined : List ℕ → Option (List ℕ) → List ℕ
joined own None = own
joined own (Some other) = own ++ codes " or " ++ other

-- the text is all that is lawful there: the reply that isn't `NoMemory`, and another if one is
pub record Shows (A : Type 0) (c : Channel ℕ) (step : Step ℕ) (expected : List ℕ) : Type 0 where
  pub own : Reply ℕ A
  pub other : Option (List ℕ)
  pub expected_is : expected ≡ joined (reply_text own) other
  pub is_lawful : IsReply c step own
  pub had_memory : IsNoMemory own → ⊥
  pub is_another : other ≡ Some (reply_text own) → ⊥
  pub are_all : (text : List ℕ)
      → IsLawfulText A c step text ↔ ((text ≡ reply_text own) ⊎ (other ≡ Some text))

-- what is printed if the reply on this line is this, and `expected` is lawful
abbrev pub break_text : ℕ → List ℕ → List ℕ → List ℕ
break_text number reply expected =
    codes "line " ++ decimal number ++ codes ": " ++ reply ++ codes ", but " ++ expected ++ 10 ∷ []

-- each line is right, and the pairs are a history
pub record PrintsCorrect (A : Type 0) (input text : List ℕ) (status : ℕ) : Type 0 where
  pub capacity : Option ℕ
  pub pairs : List Pair
  pub reads : IsScript IsPairLine (lines input) capacity pairs
  pub is_history : IsHistory {A = A} IsTextOf (opens capacity 1) pairs
  pub text_is : text ≡ codes "correct" ++ 10 ∷ []
  pub status_is : status ≡ 0

-- each line is right: the text names the first reply that isn't lawful, and what is lawful there
pub record Breaks (A : Type 0) (input text : List ℕ) (status : ℕ) : Type 0 where
  pub capacity : Option ℕ
  pub before : List Pair
  pub step : Step ℕ
  pub reply : List ℕ
  pub later : List Pair
  pub reads : IsScript IsPairLine (lines input) capacity (before ++ (step, reply) ∷ later)
  pub breaks :
      BreaksAt {A = A} IsTextOf (opens capacity 1) (before ++ (step, reply) ∷ later) (length before)
  pub expected : List ℕ
  pub shows : (log : Log ℕ A) → IsRun (opens capacity 1) log
      → DescribesLog IsTextOf (reverse before) log
      → Shows A (channel (opens capacity 1) log) step expected
  pub text_is : text ≡ break_text (length before + 2) reply expected
  pub status_is : status ≡ 1

-- this text is printed of these bytes, with this status; A allocates the lists of the replies
abbrev pub Judges : Type 0 → List ℕ → List ℕ → ℕ → Type 0
Judges A input text status =
    PrintsCorrect A input text status
    ⊎ (Breaks A input text status ⊎ Refuses IsPairLine input text status)
