use Rattle.std.proofs.Common.{◌≡◌, ℕ, ◌%◌, ◌^◌, ◌++◌, map}
use Rattle.flume_model.specs.Log.{Log, Opening}
use Rattle.flume_model.specs.Conserved.{given_out}
use Rattle.flume.specs.Represents.{Represents}
use Rattle.example_proved_callers.specs.Loops.{passes, sum_of}
use Rattle.example_proved_callers.proofs.loops.pass_all.Given as goal

-- the steps for the numbers so far led here, and gave out what the sum is of
abbrev pub invariant-loop-number : goal.invariant-loop-number
invariant-loop-number g l = record {
  reachable : (opening : Opening) (log : Log ℕ g.row.A.Denot) → Represents opening log l.fn.chan
      → (steps : Log ℕ g.row.A.Denot) × (map (λ pair. pair.0) steps ≡ passes l.number)
      × Represents opening (steps ++ log) l.chan
      × (l.sum ≡ sum_of (given_out steps) % 2 ^ 64);
}
