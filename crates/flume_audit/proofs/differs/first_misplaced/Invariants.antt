use Rattle.std.proofs.Common.{ℕ, Option, drop, map}
use Rattle.std.specs.List.{Any}
use Rattle.flume_audit.specs.Misplaced.{IsLeast, Misplaced, lesser}
use Rattle.flume_audit.proofs.differs.first_misplaced.Given as goal

-- with the least number of the lists from here on, this is the least of all lists
abbrev pub invariant-loop-seat : goal.invariant-loop-seat
invariant-loop-seat g l = record {
  least : (later : Option ℕ)
      → IsLeast (λ number. Any (Misplaced l.length number)
      (map g.H.Receipts.receipts (drop l.seat-index l.seats))) later
      → IsLeast (λ number. Any (Misplaced l.length number) (map g.H.Receipts.receipts l.seats))
      (lesser l.least later);
}
