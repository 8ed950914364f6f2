-- When two replies are equal: if their cases are the same, and what they hold is equal.
use Rattle.std.specs.Prelude.{Bool, true, false, ◌&&◌, nat_eq, IsTrue}
use Rattle.std.specs.Option.{option_eq}
use Rattle.std.specs.Bool.{beq}
use Rattle.std.specs.Cmp.Lexicographic.{pointwise}
use Rattle.flume_model.specs.declared.step.Reply.{Reply}
use Rattle.flume_model.specs.declared.step.Reply.TheVariants.{Sent, Full, Closed, NoMemory, Spent}
use Rattle.flume_model.specs.declared.step.Reply.TheVariants.{Pending, Accepted, Waiting, Returned}
use Rattle.flume_model.specs.declared.step.Reply.TheVariants.{NoTicket, Got, Empty, Ended, Parked}
use Rattle.flume_model.specs.declared.step.Reply.TheVariants.{Gone, Drained, Done, NoEnd, CountFull}
use Rattle.flume_model.specs.declared.step.Reply.TheVariants.{Number, Flag, Capacity, Unbounded}

module _ {T A : Type 0} where
  -- whether two replies are equal; `equal` compares messages
  abbrev pub equal_replies : (T → T → Bool) → Reply T A → Reply T A → Bool
  equal_replies equal (Sent x) (Sent y) = option_eq nat_eq x y
  equal_replies equal (Full x) (Full y) = equal x y
  equal_replies equal (Closed x) (Closed y) = equal x y
  equal_replies equal (NoMemory x) (NoMemory y) = option_eq equal x y
  equal_replies equal (Spent x) (Spent y) = option_eq equal x y
  equal_replies equal (Pending t) (Pending u) = nat_eq t u
  equal_replies equal Accepted Accepted = true
  equal_replies equal Waiting Waiting = true
  equal_replies equal (Returned x c) (Returned y d) = equal x y && beq c d
  equal_replies equal NoTicket NoTicket = true
  equal_replies equal (Got x) (Got y) = equal x y
  equal_replies equal Empty Empty = true
  equal_replies equal Ended Ended = true
  equal_replies equal (Parked t) (Parked u) = nat_eq t u
  equal_replies equal (Gone c f) (Gone d g) = beq c d && option_eq nat_eq f g
  equal_replies equal (Drained list) (Drained other) = pointwise equal list.items other.items
  equal_replies equal Done Done = true
  equal_replies equal NoEnd NoEnd = true
  equal_replies equal CountFull CountFull = true
  equal_replies equal (Number n) (Number m) = nat_eq n m
  equal_replies equal (Flag b) (Flag c) = beq b c
  equal_replies equal (Capacity n) (Capacity m) = option_eq nat_eq n m
  equal_replies equal Unbounded Unbounded = true
  equal_replies equal _ _ = false

  -- the recorded reply equals this one
  abbrev pub Equals : (T → T → Bool) → Reply T A → Reply T A → Type 0
  Equals equal recorded reply = IsTrue (equal_replies equal recorded reply)
