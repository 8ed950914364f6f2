-- Each receipt is compared with the one before it.
use Rattle.std.proofs.Common.{None}
use Rattle.flume_audit.proofs.LeastLemmas.{lesser_none, lesser_assoc}
use Rattle.flume_audit.proofs.NeighbourLemmas.{least_with_second, least_of_rest, none_of_one}
use Rattle.flume_audit.proofs.differs.first_not_above.Goals as goal
use Rattle.flume_audit.proofs.differs.first_not_above.Goals.{then-receipt-before, else-receipt-before}

pub loop-rest-preserved : goal.loop-rest-preserved
loop-rest-preserved g c = record {
  least = λ later is. elim c.if-receipt-before.branch [
    | then-receipt-before w ↦
        rw (w.least-is, w.lesser-least.ensures.lesser, lesser_assoc)
        (c.loop-rest.invariant.least _ (least_with_second c.loop-rest.rest.now later
        c.before-item.result c.receipt-item.result c.in-len2-up.len_at_least c.before-item.is
        c.receipt-item.is is w.if-receipt-before.true))
    | else-receipt-before w ↦
        rw w.least-is
        (c.loop-rest.invariant.least _ (least_of_rest c.loop-rest.rest.now later
        c.before-item.result c.receipt-item.result c.in-len2-up.len_at_least c.before-item.is
        c.receipt-item.is is w.if-receipt-before.false))
  ];
}

pub returns : goal.returns
returns g c =
    let none = none_of_one c.loop-rest.rest.now c.in_default.len_below in record {
      least = rw lesser_none at (c.loop-rest.invariant.least None none);
    }
