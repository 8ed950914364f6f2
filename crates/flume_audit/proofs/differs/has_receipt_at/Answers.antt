-- The only receipt is compared with the entry.
use Rattle.flume_audit.proofs.OnlyReceiptLemmas.{only_is}
use Rattle.flume_audit.proofs.differs.has_receipt_at.Goals as goal

pub returns-in-Some : goal.returns-in-Some
returns-in-Some g c = record {
  sole = rw (only_is _ _ c.in-Some.ensures.only) c.is_receipt_of.ensures.same;
}
