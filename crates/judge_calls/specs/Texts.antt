-- The texts of calls and of answers.
use Rattle.std.specs.Prelude.{◌≡◌, ℕ, ◌^◌, ◌<◌, Bool, true, false, Option, Some, None}
use Rattle.std.specs.Prelude.{List, [], ◌∷◌, ◌++◌, codes}
use Rattle.std.specs.Borrow.{Bor}
use Rattle.std.specs.List.{All}
use Rattle.std.specs.Fmt.{decimal}
use Rattle.flume_script.specs.ReplyTexts.{spaced}
use Rattle.judge_calls.specs.declared.call.Call.{Call}
use Rattle.judge_calls.specs.declared.call.Call.TheVariants.{Send, SendTimeout, SendAsync}
use Rattle.judge_calls.specs.declared.call.Call.TheVariants.{TrySend, Recv, RecvTimeout}
use Rattle.judge_calls.specs.declared.call.Call.TheVariants.{RecvAsync, TryRecv, Drain}
use Rattle.judge_calls.specs.declared.call.Call.TheVariants.{CloneSender, CloneReceiver}
use Rattle.judge_calls.specs.declared.call.Call.TheVariants.{DropSender, DropReceiver}
use Rattle.judge_calls.specs.declared.call.Call.TheVariants.{SetCapacity, Len, IsEmpty, IsFull}
use Rattle.judge_calls.specs.declared.call.Call.TheVariants.{Capacity as CapacityQuery}
use Rattle.judge_calls.specs.declared.call.Call.TheVariants.{SenderCount, ReceiverCount}
use Rattle.judge_calls.specs.declared.call.Call.TheVariants.{IsDisconnected}
use Rattle.judge_calls.specs.declared.call.Answer.{Answer}
use Rattle.judge_calls.specs.declared.call.Answer.TheVariants.{Sent, Full, Got, Empty}
use Rattle.judge_calls.specs.declared.call.Answer.TheVariants.{Disconnected, Timeout, NoMemory}
use Rattle.judge_calls.specs.declared.call.Answer.TheVariants.{Dropped, Drained, Done, NoEnd}
use Rattle.judge_calls.specs.declared.call.Answer.TheVariants.{CountFull, Number, Flag}
use Rattle.judge_calls.specs.declared.call.Answer.TheVariants.{Capacity, Unbounded}

-- nothing, or a space and this
abbrev pub behind_space : Option (Bor (List ℕ)) → List ℕ
behind_space None = []
behind_space (Some text) = 32 ∷ text.now

-- the word of a call
abbrev pub call_word : Call ℕ → List ℕ
call_word (Send message) = codes "send"
call_word (SendTimeout message) = codes "send_timeout"
call_word (SendAsync message) = codes "send_async"
call_word (TrySend message) = codes "try_send"
call_word Recv = codes "recv"
call_word RecvTimeout = codes "recv_timeout"
call_word RecvAsync = codes "recv_async"
call_word TryRecv = codes "try_recv"
call_word Drain = codes "drain"
call_word CloneSender = codes "clone_sender"
call_word CloneReceiver = codes "clone_receiver"
call_word DropSender = codes "drop_sender"
call_word DropReceiver = codes "drop_receiver"
call_word (SetCapacity capacity) = codes "set_capacity"
call_word Len = codes "len"
call_word IsEmpty = codes "is_empty"
call_word IsFull = codes "is_full"
call_word CapacityQuery = codes "capacity"
call_word SenderCount = codes "sender_count"
call_word ReceiverCount = codes "receiver_count"
call_word IsDisconnected = codes "is_disconnected"

-- the number behind the word of a call
abbrev pub call_number : Call ℕ → Option ℕ
call_number (Send message) = Some message
call_number (SendTimeout message) = Some message
call_number (SendAsync message) = Some message
call_number (TrySend message) = Some message
call_number (SetCapacity capacity) = Some capacity
call_number _ = None

-- a word, and the number behind it
abbrev pub worded : List ℕ → Option ℕ → List ℕ
worded word None = word
worded word (Some number) = word ++ 32 ∷ decimal number

-- the text of a call
abbrev pub call_text : Call ℕ → List ℕ
call_text call = worded (call_word call) (call_number call)

-- the number fits 64 bits
abbrev pub FitsWord : ℕ → Type 0
FitsWord number = number < 2 ^ 64

-- if there is a number, it fits 64 bits
abbrev pub FitsIfAny : Option ℕ → Type 0
FitsIfAny None = Unit {0}
FitsIfAny (Some number) = FitsWord number

-- it is the text of this call, whose number fits 64 bits
abbrev pub IsCallText : List ℕ → Call ℕ → Type 0
IsCallText text call = (text ≡ call_text call) × FitsIfAny (call_number call)

-- it is the text of no call
abbrev pub IsNoCall : List ℕ → Type 0
IsNoCall text = (call : Call ℕ) → ¬ IsCallText text call

module _ {A : Type 0} where
  -- the text of an answer
  abbrev pub answer_text : Answer ℕ A → List ℕ
  answer_text Sent = codes "sent"
  answer_text Full = codes "full"
  answer_text (Got message) = codes "got " ++ decimal message
  answer_text Empty = codes "empty"
  answer_text Disconnected = codes "disconnected"
  answer_text Timeout = codes "timeout"
  answer_text NoMemory = codes "nomemory"
  answer_text Dropped = codes "dropped"
  answer_text (Drained messages) = codes "drained" ++ spaced messages
  answer_text Done = codes "done"
  answer_text NoEnd = codes "noend"
  answer_text CountFull = codes "countfull"
  answer_text (Number number) = decimal number
  answer_text (Flag true) = codes "true"
  answer_text (Flag false) = codes "false"
  answer_text (Capacity None) = codes "none"
  answer_text (Capacity (Some capacity)) = decimal capacity
  answer_text Unbounded = codes "unbounded"

  -- the answer's numbers fit 64 bits
  abbrev pub AnswerFits : Answer ℕ A → Type 0
  AnswerFits (Got message) = FitsWord message
  AnswerFits (Drained messages) = All FitsWord messages
  AnswerFits (Number number) = FitsWord number
  AnswerFits (Capacity capacity) = FitsIfAny capacity
  AnswerFits _ = Unit {0}

  -- it is the text of this answer, whose numbers fit 64 bits
  abbrev pub IsAnswerText : List ℕ → Answer ℕ A → Type 0
  IsAnswerText text answer = (text ≡ answer_text answer) × AnswerFits answer

  -- it is a capacity, and no number, exactly if the call asked for one: their texts are the same
  abbrev pub IsNumberOf : Bool → Answer ℕ A → Type 0
  IsNumberOf asks (Number number) = asks ≡ false
  IsNumberOf asks (Capacity (Some capacity)) = asks ≡ true
  IsNumberOf asks _ = Unit {0}

-- it is the text of no answer; `A` allocates the lists
abbrev pub IsNoAnswer : Type 0 → List ℕ → Type 0
IsNoAnswer A text = (answer : Answer ℕ A) → ¬ IsAnswerText text answer
