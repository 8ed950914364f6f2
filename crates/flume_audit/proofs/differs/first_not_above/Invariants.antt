use Rattle.std.proofs.Common.{ℕ, Option, length}
use Rattle.flume_audit.specs.Settled.{NotAbove}
use Rattle.flume_audit.specs.Misplaced.{IsLeast, lesser}
use Rattle.flume_audit.proofs.differs.first_not_above.Given as goal

-- with the least number of the rest, this is the least of the whole list
abbrev pub invariant-loop-rest : goal.invariant-loop-rest
invariant-loop-rest g l = record {
  least : (later : Option ℕ) → IsLeast (λ number. NotAbove number l.rest) later
      → IsLeast (λ number. NotAbove number l.fn.list) (lesser l.least later);
}

abbrev pub decreases-loop-rest : goal.decreases-loop-rest
decreases-loop-rest g l = length l.rest
