-- What a call at a stage may return.
use Rattle.std.specs.Prelude.{Bool, true, false, ◌||◌, ◌&&◌, nat_eq}
use Rattle.std.specs.Option.{option_eq}
use Rattle.std.specs.Bool.{beq}
use Rattle.std.specs.Cmp.Lexicographic.{pointwise}
use Rattle.judge_calls.specs.declared.call.Call.{Call}
use Rattle.judge_calls.specs.declared.call.Call.TheVariants.{SendAsync, RecvAsync}
use Rattle.judge_calls.specs.declared.call.Answer.{Answer}
use Rattle.judge_calls.specs.declared.call.Answer.TheVariants.{Sent, Full, Got, Empty}
use Rattle.judge_calls.specs.declared.call.Answer.TheVariants.{Disconnected, Timeout, NoMemory}
use Rattle.judge_calls.specs.declared.call.Answer.TheVariants.{Dropped, Drained, Done, NoEnd}
use Rattle.judge_calls.specs.declared.call.Answer.TheVariants.{CountFull, Number, Flag}
use Rattle.judge_calls.specs.declared.call.Answer.TheVariants.{Capacity, Unbounded}
use Rattle.judge_calls.specs.declared.stage.Stage.{Stage}
use Rattle.judge_calls.specs.declared.stage.Stage.TheVariants.{Begun, Tried, Answered}

module _ {T A : Type 0} where
  -- whether two answers are equal; `equal` compares messages
  abbrev pub equal_answers : (T → T → Bool) → Answer T A → Answer T A → Bool
  equal_answers equal Sent Sent = true
  equal_answers equal Full Full = true
  equal_answers equal (Got x) (Got y) = equal x y
  equal_answers equal Empty Empty = true
  equal_answers equal Disconnected Disconnected = true
  equal_answers equal Timeout Timeout = true
  equal_answers equal NoMemory NoMemory = true
  equal_answers equal Dropped Dropped = true
  equal_answers equal (Drained xs) (Drained ys) = pointwise equal xs ys
  equal_answers equal Done Done = true
  equal_answers equal NoEnd NoEnd = true
  equal_answers equal CountFull CountFull = true
  equal_answers equal (Number n) (Number m) = nat_eq n m
  equal_answers equal (Flag b) (Flag c) = beq b c
  equal_answers equal (Capacity n) (Capacity m) = option_eq nat_eq n m
  equal_answers equal Unbounded Unbounded = true
  equal_answers equal _ _ = false

  -- whether the answer is that a future was dropped
  abbrev pub is_dropped : Call T → Answer T A → Bool
  is_dropped (SendAsync message) Dropped = true
  is_dropped RecvAsync Dropped = true
  is_dropped _ _ = false

  -- whether a call that has come to this answer may have been dropped: not with a message
  abbrev pub may_be_dropped : Answer T A → Bool
  may_be_dropped (Got message) = false
  may_be_dropped _ = true

  -- whether a call at this stage may return this
  abbrev pub may_return : (T → T → Bool) → Call T → Stage T A → Answer T A → Bool
  may_return equal call Begun recorded = is_dropped call recorded
  may_return equal call Tried recorded =
      equal_answers equal recorded NoMemory || is_dropped call recorded
  may_return equal call (Answered own) recorded =
      equal_answers equal recorded own || (may_be_dropped own && is_dropped call recorded)
  may_return equal call _ recorded = false
