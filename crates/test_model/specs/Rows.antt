-- Rows of steps with their replies, when they are runs, and when near-misses.
use Rattle.std.specs.Prelude.{ℕ, List, [], ◌∷◌, Option, Some, None}
use Rattle.std.specs.declared.vec.Vec.{Vec}
use Rattle.flume_model.specs.declared.step.Kind.TheVariants.{Plain}
use Rattle.flume_model.specs.declared.step.Step.{Step}
use Rattle.flume_model.specs.declared.step.Step.TheVariants.{Send, Recv}
use Rattle.flume_model.specs.declared.step.Reply.{Reply}
use Rattle.flume_model.specs.declared.step.Reply.TheVariants.{Sent, Parked}
use Rattle.flume_model.specs.Log.{Log}
use Rattle.flume_model.specs.Limits.{most}
use Rattle.flume_model.specs.Replies.{IsRun}

-- steps of numbers with their replies, the first one first
abbrev pub Row : Type 0
Row = List (Step ℕ × Reply ℕ (Unit {0}))

-- a row as a log, the newest first
abbrev pub as_log : Log ℕ (Unit {0}) → Row → Log ℕ (Unit {0})
as_log log [] = log
as_log log (p ∷ row) = as_log (p ∷ log) row

-- the row is a run of a new channel of this capacity
abbrev pub Runs : Option ℕ → Row → Type 0
Runs capacity row = IsRun (record { capacity = capacity; first = 1 }) (as_log [] row)

-- the row is a run of a new channel of capacity 0 that has no ticket left
abbrev pub RunsWithoutTickets : Row → Type 0
RunsWithoutTickets row = IsRun (record { capacity = Some 0; first = most }) (as_log [] row)

-- a row without its last pair
abbrev pub but_last : Row → Row
but_last [] = []
but_last (p ∷ []) = []
but_last (p ∷ q ∷ row) = p ∷ but_last (q ∷ row)

-- a row whose last reply alone misses a run of a new channel of this capacity
abbrev pub WrongAtEnd : Option ℕ → Row → Type 0
WrongAtEnd capacity row = Runs capacity (but_last row) × ¬ Runs capacity row

-- what a drain hands out
abbrev pub Numbers : Type 0
Numbers = Vec ℕ (Unit {0})

-- two receivers wait at capacity 0, and one is woken for a message
abbrev pub one_woken_of_two : Row
one_woken_of_two = (Recv Plain, Parked 1) ∷ (Recv Plain, Parked 2) ∷ (Send 1, Sent None) ∷ []

-- a round fills a receiver that doesn't block
abbrev pub plain_filled : Row
plain_filled = (Recv Plain, Parked 1) ∷ (Send 5, Sent (Some 1)) ∷ []
