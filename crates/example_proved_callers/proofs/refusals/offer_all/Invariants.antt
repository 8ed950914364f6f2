use Rattle.std.proofs.Common.{◌≡◌, List, ◌++◌, length}
use Rattle.example_proved_callers.proofs.refusals.offer_all.Given as goal

-- what was sent so far, and the rest, are what was handed in
abbrev pub invariant-loop-message : goal.invariant-loop-message
invariant-loop-message g l = record {
  parts : (sent : List g.row.T.Denot) × (l.fn.messages.items ≡ sent ++ l.messages.items);
}

-- the rest is shorter each time
abbrev pub decreases-loop-message : goal.decreases-loop-message
decreases-loop-message g l = length l.messages.items
