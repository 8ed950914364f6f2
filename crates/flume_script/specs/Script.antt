-- What a script of steps is, line by line.
use Rattle.std.specs.Prelude.{◌≡◌, ℕ, ◌+◌, ◌^◌, ◌<◌, ◌⊎◌, List, [], ◌∷◌, ◌++◌, length}
use Rattle.std.specs.Prelude.{Option, Some, None, codes}
use Rattle.std.specs.List.{AllZip}
use Rattle.std.specs.Fmt.{decimal}
use Rattle.std.specs.Str.Parse.{IsNumeral, digits_value}
use Rattle.flume_model.specs.declared.step.Kind.{Kind}
use Rattle.flume_model.specs.declared.step.Kind.TheVariants.{Block, Plain, Stream, Arm}
use Rattle.flume_model.specs.declared.step.Step.{Step}
use Rattle.flume_model.specs.declared.step.Step.TheVariants.{TrySend, Send, PollSend, WithdrawSend}
use Rattle.flume_model.specs.declared.step.Step.TheVariants.{TryRecv, Recv, Poll, Withdraw, Drain}
use Rattle.flume_model.specs.declared.step.Step.TheVariants.{CloneSender, CloneReceiver}
use Rattle.flume_model.specs.declared.step.Step.TheVariants.{DropSender, DropReceiver, SetCapacity}
use Rattle.flume_model.specs.declared.step.Step.TheVariants.{Len, IsEmpty}
use Rattle.flume_model.specs.declared.step.Step.TheVariants.{IsFull, Capacity, SenderCount}
use Rattle.flume_model.specs.declared.step.Step.TheVariants.{ReceiverCount, IsDisconnected}

-- the line is this word, which ends in a space, and then the decimal digits of a number of 64 bits
pub record IsWordWithNumber (line word : List ℕ) (number : ℕ) : Type 0 where
  pub digits : List ℕ
  pub line_is : line ≡ word ++ digits
  pub numeral : IsNumeral 10 digits
  pub value : digits_value 10 digits ≡ number
  pub fits : number < 2 ^ 64

-- the line opens a channel of this capacity
abbrev pub IsOpeningLine : List ℕ → Option ℕ → Type 0
IsOpeningLine line None = line ≡ codes "unbounded"
IsOpeningLine line (Some capacity) = IsWordWithNumber line (codes "bounded ") capacity

-- the word of a step, or the two of one that parks, and the number behind it, if any
abbrev pub step_parts : Step ℕ → List ℕ × Option ℕ
step_parts (TrySend message) = (codes "try_send", Some message)
step_parts (Send message) = (codes "send", Some message)
step_parts (PollSend ticket) = (codes "poll_send", Some ticket)
step_parts (WithdrawSend ticket) = (codes "withdraw_send", Some ticket)
step_parts TryRecv = (codes "try_recv", None)
step_parts (Recv Block) = (codes "recv block", None)
step_parts (Recv Plain) = (codes "recv plain", None)
step_parts (Recv Stream) = (codes "recv stream", None)
step_parts (Recv Arm) = (codes "recv arm", None)
step_parts (Poll ticket) = (codes "poll", Some ticket)
step_parts (Withdraw ticket) = (codes "withdraw", Some ticket)
step_parts Drain = (codes "drain", None)
step_parts CloneSender = (codes "clone_sender", None)
step_parts CloneReceiver = (codes "clone_receiver", None)
step_parts DropSender = (codes "drop_sender", None)
step_parts DropReceiver = (codes "drop_receiver", None)
step_parts (SetCapacity capacity) = (codes "set_capacity", Some capacity)
step_parts Len = (codes "len", None)
step_parts IsEmpty = (codes "is_empty", None)
step_parts IsFull = (codes "is_full", None)
step_parts Capacity = (codes "capacity", None)
step_parts SenderCount = (codes "sender_count", None)
step_parts ReceiverCount = (codes "receiver_count", None)
step_parts IsDisconnected = (codes "is_disconnected", None)

-- the line is the word alone, or a space and the decimal digits of the number are behind it
abbrev pub IsLineOf : List ℕ → List ℕ × Option ℕ → Type 0
IsLineOf line (word, None) = line ≡ word
IsLineOf line (word, Some number) = IsWordWithNumber line (word ++ 32 ∷ []) number

-- the line is this step
abbrev pub IsStepLine : List ℕ → Step ℕ → Type 0
IsStepLine line step = IsLineOf line (step_parts step)

-- the line opens no channel
abbrev pub IsNoOpening : List ℕ → Type 0
IsNoOpening line = (capacity : Option ℕ) → ¬ IsOpeningLine line capacity

-- `IsLine` says what a line after the first may be, as `IsStepLine`
module _ {X : Type 0} (IsLine : List ℕ → X → Type 0) where
  -- the lines are an opening line, and then one for each of these
  pub record IsScript (lines : List (List ℕ)) (capacity : Option ℕ) (steps : List X)
      : Type 0 where
    pub first : List ℕ
    pub rest : List (List ℕ)
    pub lines_are : lines ≡ first ∷ rest
    pub opens : IsOpeningLine first capacity
    pub steps_are : AllZip IsLine rest steps

  -- the line is none of these
  abbrev pub IsNoLine : List ℕ → Type 0
  IsNoLine line = (step : X) → ¬ IsLine line step

  -- this many of the lines are some, and the next one is none
  pub record LinesUpTo (lines : List (List ℕ)) (place : ℕ) : Type 0 where
    pub before : List (List ℕ)
    pub steps : List X
    pub line : List ℕ
    pub later : List (List ℕ)
    pub parts : lines ≡ before ++ line ∷ later
    pub right : AllZip IsLine before steps
    pub wrong : IsNoLine line
    pub place_is : length before ≡ place

  -- the first wrong line has this number, counted from 1; without any line, it is 1
  abbrev pub IsFirstWrong : List (List ℕ) → ℕ → Type 0
  IsFirstWrong [] number = number ≡ 1
  IsFirstWrong (first ∷ rest) number =
      (IsNoOpening first × (number ≡ 1))
      ⊎ ((capacity : Option ℕ) × IsOpeningLine first capacity
      × (place : ℕ) × LinesUpTo rest place × (number ≡ place + 2))

-- what is printed for a wrong line
abbrev pub wrong_text : ℕ → List ℕ
wrong_text number = codes "line " ++ decimal number ++ codes ": not a step" ++ 10 ∷ []
