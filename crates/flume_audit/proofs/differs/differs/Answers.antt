-- Up to the least misplaced number, or the history's end, each entry is looked for.
use Rattle.std.proofs.Common.{arith, below_more, map, refl}
use Rattle.std.proofs.lemmas.Option.{slice_get_read}
use Rattle.flume_audit.proofs.DisagreementLemmas.{bound_within, rises_below, without_one_receipt, end_some, end_none, agree_here}
use Rattle.flume_audit.proofs.differs.differs.Invariants.{same_entry}
use Rattle.flume_audit.proofs.differs.differs.Goals as goal

pub offset_bounds-history-number : goal.offset_bounds-history-number
offset_bounds-history-number g c =
    let within = bound_within c.args.history.now (map g.H.Receipts.receipts c.args.seats.now) _
    c.first_misplaced-end.ensures.least in
    let bound = c.unwrap_or-number-end.ensures in omega (arith, within)

pub bounds-history-number : goal.bounds-history-number
bounds-history-number g c =
    let within = bound_within c.args.history.now (map g.H.Receipts.receipts c.args.seats.now) _
    c.first_misplaced-end.ensures.least in
    let bound = c.unwrap_or-number-end.ensures in omega (arith, within)

pub has_receipt_at-requires : goal.has_receipt_at-requires
has_receipt_at-requires g c = record {
  before = rises_below c.args.history.now (map g.H.Receipts.receipts c.args.seats.now) _
      c.first_misplaced-end.ensures.least c.loop-number.number
      (let bound = c.unwrap_or-number-end.ensures in omega arith);
}

pub returns-then-not-has_receipt_at-clause-some : goal.returns-then-not-has_receipt_at-clause-some
returns-then-not-has_receipt_at-clause-some g c =
    let history = c.args.history.now in
    let within = bound_within history (map g.H.Receipts.receipts c.args.seats.now) _
    c.first_misplaced-end.ensures.least in
    let bound = c.unwrap_or-number-end.ensures in
    without_one_receipt history (map g.H.Receipts.receipts c.args.seats.now) (same_entry g) _
    c.first_misplaced-end.ensures.least c.loop-number.number c.index-history-number.result
    (omega arith) (slice_get_read history _ c.loop-number.number c.index-history-number.result
    refl (omega (arith, within)) c.index-history-number.is) c.if-not-has_receipt_at.ensures.sole
    c.loop-number.invariant.agree

pub loop-number-preserved : goal.loop-number-preserved
loop-number-preserved g c = record {
  agree = below_more _ _ c.loop-number.invariant.agree (agree_here c.args.history.now
      (map g.H.Receipts.receipts c.args.seats.now) (same_entry g) c.loop-number.number
      c.index-history-number.result c.index-history-number.is c.if-not-has_receipt_at.ensures.sole);
}

pub returns-clause-some : goal.returns-clause-some
returns-clause-some g c =
    let bound = c.unwrap_or-number-end.ensures in
    end_some c.args.history.now (map g.H.Receipts.receipts c.args.seats.now) (same_entry g)
    c.first_misplaced-end.result c.first_misplaced-end.ensures.least
    (λ lower lt. c.loop-number.invariant.agree lower (omega arith))

pub returns-clause-none : goal.returns-clause-none
returns-clause-none g c =
    let bound = c.unwrap_or-number-end.ensures in
    end_none c.args.history.now (map g.H.Receipts.receipts c.args.seats.now) (same_entry g)
    c.first_misplaced-end.result c.first_misplaced-end.ensures.least
    (λ lower lt. c.loop-number.invariant.agree lower (omega arith))
