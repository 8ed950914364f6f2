-- By the cases of the two replies, one reply after the other.
use Rattle.std.proofs.Common.{◌≡◌, ℕ, Bool, Option, Vec, refl}
use Rattle.flume_model.specs.declared.step.Reply.{Reply}
use Rattle.flume_model.specs.declared.step.Reply.TheVariants.{Sent, Full, Closed, NoMemory, Spent}
use Rattle.flume_model.specs.declared.step.Reply.TheVariants.{Pending, Accepted, Waiting, Returned}
use Rattle.flume_model.specs.declared.step.Reply.TheVariants.{NoTicket, Got, Empty, Ended, Parked}
use Rattle.flume_model.specs.declared.step.Reply.TheVariants.{Gone, Drained, Done, NoEnd, CountFull}
use Rattle.flume_model.specs.declared.step.Reply.TheVariants.{Number, Flag, Capacity, Unbounded}
use Rattle.flume_model.specs.contracts.step.ReplyPartialEq.TheImpl as replies
use Rattle.flume_history.specs.Equal.{equal_replies}
use Rattle.flume_history.proofs.laws.replies_are_equal_by_case.Given as given
use Rattle.flume_history.proofs.laws.replies_are_equal_by_case.Goals as goal

module _ (g : given.Over) where
  -- the comparison of this reply with any other is the one of the table
  abbrev IsTabled : Reply g.row.T.Denot g.row.A.Denot → Type 0
  IsTabled recorded = (reply : Reply g.row.T.Denot g.row.A.Denot)
      → (replies.ghosts g.row.T g.row.A g.A.Allocator g.A.Allocator-dict g.T.PartialEq g.T.PartialEq-dict g.A.Destruct-dict).eq recorded
      reply
      ≡ equal_replies g.T.PartialEq.eq recorded reply

  sent : (x : Option ℕ) → IsTabled (Sent x)
  sent x (Sent y) = refl
  sent x _ = refl

  full : (x : g.row.T.Denot) → IsTabled (Full x)
  full x (Full y) = refl
  full x _ = refl

  closed : (x : g.row.T.Denot) → IsTabled (Closed x)
  closed x (Closed y) = refl
  closed x _ = refl

  no_memory : (x : Option g.row.T.Denot) → IsTabled (NoMemory x)
  no_memory x (NoMemory y) = refl
  no_memory x _ = refl

  spent : (x : Option g.row.T.Denot) → IsTabled (Spent x)
  spent x (Spent y) = refl
  spent x _ = refl

  pending : (x : ℕ) → IsTabled (Pending x)
  pending x (Pending y) = refl
  pending x _ = refl

  accepted : IsTabled Accepted
  accepted Accepted = refl
  accepted _ = refl

  waiting : IsTabled Waiting
  waiting Waiting = refl
  waiting _ = refl

  returned : (x : g.row.T.Denot) (closed : Bool) → IsTabled (Returned x closed)
  returned x closed (Returned y other) = refl
  returned x closed _ = refl

  no_ticket : IsTabled NoTicket
  no_ticket NoTicket = refl
  no_ticket _ = refl

  got : (x : g.row.T.Denot) → IsTabled (Got x)
  got x (Got y) = refl
  got x _ = refl

  empty : IsTabled Empty
  empty Empty = refl
  empty _ = refl

  ended : IsTabled Ended
  ended Ended = refl
  ended _ = refl

  parked : (x : ℕ) → IsTabled (Parked x)
  parked x (Parked y) = refl
  parked x _ = refl

  gone : (closed : Bool) (filled : Option ℕ) → IsTabled (Gone closed filled)
  gone closed filled (Gone other another) = refl
  gone closed filled _ = refl

  drained : (x : Vec g.row.T.Denot g.row.A.Denot) → IsTabled (Drained x)
  drained x (Drained y) = refl
  drained x _ = refl

  done : IsTabled Done
  done Done = refl
  done _ = refl

  no_end : IsTabled NoEnd
  no_end NoEnd = refl
  no_end _ = refl

  count_full : IsTabled CountFull
  count_full CountFull = refl
  count_full _ = refl

  number : (x : ℕ) → IsTabled (Number x)
  number x (Number y) = refl
  number x _ = refl

  truth : (x : Bool) → IsTabled (Flag x)
  truth x (Flag y) = refl
  truth x _ = refl

  capacity : (x : Option ℕ) → IsTabled (Capacity x)
  capacity x (Capacity y) = refl
  capacity x _ = refl

  unbounded : IsTabled Unbounded
  unbounded Unbounded = refl
  unbounded _ = refl

  tabled : (recorded : Reply g.row.T.Denot g.row.A.Denot) → IsTabled recorded
  tabled (Sent x) = sent x
  tabled (Full x) = full x
  tabled (Closed x) = closed x
  tabled (NoMemory x) = no_memory x
  tabled (Spent x) = spent x
  tabled (Pending x) = pending x
  tabled Accepted = accepted
  tabled Waiting = waiting
  tabled (Returned x y) = returned x y
  tabled NoTicket = no_ticket
  tabled (Got x) = got x
  tabled Empty = empty
  tabled Ended = ended
  tabled (Parked x) = parked x
  tabled (Gone x y) = gone x y
  tabled (Drained x) = drained x
  tabled Done = done
  tabled NoEnd = no_end
  tabled CountFull = count_full
  tabled (Number x) = number x
  tabled (Flag x) = truth x
  tabled (Capacity x) = capacity x
  tabled Unbounded = unbounded

pub returns : goal.returns
returns g c = record { same = tabled g }
