use Rattle.std.specs.Prelude.{◌≡◌, ◌+◌, vec_len}
use Rattle.flume_audit.specs.Weights.{lists_weight}
use Rattle.flume_audit.proofs.tally.merge_all.Given as goal

abbrev pub invariant-loop-seat : goal.invariant-loop-seat
invariant-loop-seat g l =
    (l.share.parts + vec_len l.seats ≡ vec_len l.fn.seats)
    × (l.share.amount + lists_weight g.W.Weigh.weight l.seats.items
    ≡ lists_weight g.W.Weigh.weight l.fn.seats.items)

abbrev pub decreases-loop-seat : goal.decreases-loop-seat
decreases-loop-seat g l = vec_len l.seats
