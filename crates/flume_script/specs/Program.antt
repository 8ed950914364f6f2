-- What `run_script` makes of the bytes of a script.
use Rattle.std.specs.Prelude.{◌≡◌, ℕ, ◌⊎◌, List, [], length, Option}
use Rattle.std.specs.Str.Lines.{lines}
use Rattle.flume_model.specs.declared.step.Step.{Step}
use Rattle.flume_model.specs.declared.step.Reply.{Reply}
use Rattle.flume_model.specs.Offers.{after}
use Rattle.flume_model.specs.Replies.{IsRun}
use Rattle.flume_state.specs.State.{State, new_state}
use Rattle.flume_core.specs.Transitions.{AreTransitions}
use Rattle.flume_script.specs.Script.{IsScript, IsStepLine, IsFirstWrong, wrong_text}
use Rattle.flume_script.specs.ReplyTexts.{reply_texts}

-- each line is right: the text is the replies of a run of the steps on a new channel
pub record Answers (A : Type 0) (input text : List ℕ) (status : ℕ) : Type 0 where
  pub capacity : Option ℕ
  pub steps : List (Step ℕ)
  pub replies : List (Reply ℕ A)
  pub reads : IsScript IsStepLine (lines input) capacity steps
  pub one_each : length replies ≡ length steps
  pub run : IsRun (record { capacity = capacity; first = 1 }) (after [] steps replies)
  pub last : State ℕ (Unit {0})
  pub transitions :
      AreTransitions (new_state (record { capacity = capacity; first = 1 })) steps replies last
  pub text_is : text ≡ reply_texts replies
  pub status_is : status ≡ 0

-- a line is wrong: the text names the first one
pub record Refuses {X : Type 0} (IsLine : List ℕ → X → Type 0) (input text : List ℕ) (status : ℕ)
    : Type 0 where
  pub line : ℕ
  pub wrong : IsFirstWrong IsLine (lines input) line
  pub text_is : text ≡ wrong_text line
  pub status_is : status ≡ 2

-- this text is printed of these bytes, with this status
abbrev pub Prints : Type 0 → List ℕ → List ℕ → ℕ → Type 0
Prints A input text status = Answers A input text status ⊎ Refuses IsStepLine input text status
