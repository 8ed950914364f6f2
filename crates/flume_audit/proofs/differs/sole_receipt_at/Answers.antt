-- The receipts of each list are those before, its own, and those after.
use Rattle.std.proofs.Common.{◌≡◌, Option, Some, None, is_some, option_map, Bor, refl, sym, ◌∙◌}
use Rattle.flume_audit.specs.Settled.{NotAbove}
use Rattle.flume_audit.proofs.AnyLemmas.{is_at}
use Rattle.flume_audit.proofs.FromLemmas.{from_end}
use Rattle.flume_audit.proofs.OnlyReceiptLemmas.{none_here, first_here, another_here, only_with_none}
use Rattle.flume_audit.proofs.differs.sole_receipt_at.Goals as goal
use Rattle.flume_audit.proofs.differs.sole_receipt_at.Goals.{in-Some+else-is_some, in_default}

-- there is a reference if there is what it points to
is_some_now : {X : Type 0} (found : Option (Bor X))
    → is_some found ≡ is_some (option_map (λ (one : Bor X). one.now) found)
is_some_now None = refl
is_some_now (Some one) = refl

pub receipt_at-requires : goal.receipt_at-requires
receipt_at-requires g c = record {
  before = λ misplaced not_above. c.requires.before misplaced (is_at g.H.Receipts.receipts
      (NotAbove misplaced) c.args.seats.now c.loop-seat.seat-index c.seat-item.result
      c.loop-seat-test.true c.seat-item.is (rw c.list.ensures.list at not_above));
}

pub returns-then-is_some : goal.returns-then-is_some
returns-then-is_some g c = record {
  only = sym (another_here g.H.Receipts.receipts c.args.number c.args.seats.now
      c.loop-seat.seat-index c.seat-item.result c.loop-seat-test.true c.seat-item.is _
      c.loop-seat.invariant.only c.list.result.now c.list.ensures.list c.in-Some.receipt.now
      c.in-Some.ensures.sole (sym (is_some_now c.loop-seat.only) ∙ sym c.if-is_some.ensures));
}

pub loop-seat-preserved : goal.loop-seat-preserved
loop-seat-preserved g c = record {
  only = elim c.match-receipt_at.branch [
    | in-Some+else-is_some w ↦
        rw w.only-is (first_here g.H.Receipts.receipts c.args.number c.args.seats.now
        c.loop-seat.seat-index c.seat-item.result c.loop-seat-test.true c.seat-item.is _
        c.loop-seat.invariant.only c.list.result.now c.list.ensures.list w.in-Some.receipt.now
        w.in-Some.ensures.sole (sym (is_some_now c.loop-seat.only) ∙ sym w.if-is_some.ensures))
    | in_default w ↦
        rw w.only-is (none_here g.H.Receipts.receipts c.args.number c.args.seats.now
        c.loop-seat.seat-index c.seat-item.result c.loop-seat-test.true c.seat-item.is _
        c.loop-seat.invariant.only c.list.result.now c.list.ensures.list
        w.in_default.ensures.sole)
  ];
}

pub returns : goal.returns
returns g c = record {
  only = let none = from_end g.H.Receipts.receipts c.args.seats.now _ c.loop-seat-test.false in
      let is = c.loop-seat.invariant.only in
      sym (rw (none, only_with_none) at is);
}
