use Rattle.std.proofs.Common.{◌≡◌, drop, map, option_map}
use Rattle.flume_audit.specs.Only.{only}
use Rattle.flume_audit.specs.Settled.{receipts_at}
use Rattle.flume_audit.proofs.OnlyReceiptLemmas.{only_with}
use Rattle.flume_audit.proofs.differs.sole_receipt_at.Given as goal

-- of what all lists tell, the only receipt is that of the one found and of the lists from here on
abbrev pub invariant-loop-seat : goal.invariant-loop-seat
invariant-loop-seat g l = record {
  only : only (receipts_at l.number (map g.H.Receipts.receipts l.seats))
      ≡ only_with (option_map (λ receipt. receipt.now) l.only)
      (receipts_at l.number (map g.H.Receipts.receipts (drop l.seat-index l.seats)));
}
