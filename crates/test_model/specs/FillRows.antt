-- What a fill is of, tried on worked logs in which receivers are filled.
use Rattle.std.specs.Prelude.{◌≡◌, ℕ, [], ◌∷◌, ◌++◌, false, Some, None}
use Rattle.flume_model.specs.declared.step.Kind.TheVariants.{Block, Plain}
use Rattle.flume_model.specs.declared.step.Step.TheVariants.{Send, Poll, Withdraw, Recv, DropSender}
use Rattle.flume_model.specs.declared.step.Step.TheVariants.{DropReceiver}
use Rattle.flume_model.specs.declared.step.Reply.TheVariants.{Sent, Got, Parked, Gone, Done}
use Rattle.flume_model.specs.Log.{FilledIn, opens}
use Rattle.flume_model.specs.Parked.{entries}
use Rattle.flume_model.specs.Fills.{IsHandOutOf}
use Rattle.test_model.specs.Rows.{Row, as_log, Runs}

-- after a row of an unbounded channel the fill of this receiver is of the message
abbrev pub IsFillOf : Row → ℕ → ℕ → Type 0
IsFillOf row ticket message =
    IsHandOutOf (entries (opens None 1) (as_log [] row)) (as_log [] row) (FilledIn ticket) message

-- the row is a run, and the fill of this receiver is of this message, and of no other
abbrev pub IsFillOfOnly : Row → ℕ → ℕ → Type 0
IsFillOfOnly row ticket message =
    Runs None row × IsFillOf row ticket message
    × ((other : ℕ) → IsFillOf row ticket other → other ≡ message)

-- the row is a run, and nothing is said of the message of this receiver's fill
abbrev pub IsLeftOut : Row → ℕ → Type 0
IsLeftOut row ticket = Runs None row × ((message : ℕ) → IsFillOf row ticket message)

-- a receiver is filled, and holds its message
abbrev pub holds : Row
holds = (Recv Block, Parked 1) ∷ (Send 7, Sent (Some 1)) ∷ []

-- a receiver that was filled collects its message
abbrev pub collects : Row
collects = holds ++ (Poll 1, Got 7) ∷ []

-- a receiver that was filled leaves with its message
abbrev pub leaves : Row
leaves = holds ++ (Withdraw 1, Got 7) ∷ []

-- the channel is closed while a receiver holds its message
abbrev pub holds_when_closed : Row
holds_when_closed = holds ++ (DropSender, Done) ∷ []

-- two are filled, and the one that was filled last collects its message first
abbrev pub two_filled : Row
two_filled =
    (Recv Block, Parked 1) ∷ (Recv Block, Parked 2) ∷ (Send 7, Sent (Some 1))
    ∷ (Send 8, Sent (Some 2)) ∷ (Poll 2, Got 8) ∷ []

-- both sides have disconnected after a receiver has collected its message
abbrev pub collects_before_the_end : Row
collects_before_the_end = collects ++ (DropSender, Done) ∷ (DropReceiver, Done) ∷ []

-- both sides have disconnected while a receiver holds its message, which goes with them
abbrev pub holds_until_the_end : Row
holds_until_the_end = holds ++ (DropSender, Done) ∷ (DropReceiver, Done) ∷ []

-- a receiver that blocks is filled with the front of the queue, which is older than the new message
abbrev pub filled_with_front : Row
filled_with_front =
    (Recv Plain, Parked 1) ∷ (Recv Block, Parked 2) ∷ (Send 1, Sent None)
    ∷ (Send 2, Sent (Some 2)) ∷ (Poll 2, Got 1) ∷ (Poll 1, Got 2) ∷ []

-- a woken receiver that leaves passes its wake on
abbrev pub wake_passed_on : Row
wake_passed_on =
    (Recv Plain, Parked 1) ∷ (Recv Block, Parked 2) ∷ (Send 5, Sent None)
    ∷ (Withdraw 1, Gone false (Some 2)) ∷ (Poll 2, Got 5) ∷ []
