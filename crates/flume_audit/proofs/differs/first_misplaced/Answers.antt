-- The lesser of those of the lists before, of the next list, and of those after.
use Rattle.std.proofs.Common.{None}
use Rattle.flume_audit.specs.Misplaced.{Misplaced}
use Rattle.flume_audit.proofs.LeastLemmas.{lesser_none, lesser_assoc, least_of_any, least_of_none}
use Rattle.flume_audit.proofs.FromLemmas.{from_here, from_end}
use Rattle.flume_audit.proofs.differs.first_misplaced.Goals as goal

pub loop-seat-preserved : goal.loop-seat-preserved
loop-seat-preserved g c = record {
  least = λ later is.
      let here = from_here g.H.Receipts.receipts c.args.seats.now c.loop-seat.seat-index
      c.seat-item.result c.loop-seat-test.true c.seat-item.is in
      let of_list = rw c.list.ensures.list at c.misplaced_in.ensures.least in
      rw (c.lesser-least.ensures.lesser, lesser_assoc)
      (c.loop-seat.invariant.least _ (rw here
      (least_of_any (Misplaced c.args.length) _ _ c.misplaced_in.result later of_list is)));
}

pub returns : goal.returns
returns g c = record {
  least =
      let none = from_end g.H.Receipts.receipts c.args.seats.now _ c.loop-seat-test.false in
      let least = c.loop-seat.invariant.least None
      (rw none (least_of_none (Misplaced c.args.length))) in rw lesser_none at least;
}
