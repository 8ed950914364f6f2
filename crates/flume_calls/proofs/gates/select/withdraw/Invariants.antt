use Rattle.std.proofs.Common.{◌≡◌, ◌<◌, ℕ, Some}
use Rattle.flume_calls.specs.SelectGates.{Withdraws}
use Rattle.flume_calls.proofs.gates.select.withdraw.Given as goal

-- the arms before this one are withdrawn, but the one spared
abbrev pub invariant-loop : goal.invariant-loop
invariant-loop g l =
    let count = g.G.SelectGate.count (g.G.SelectGate.setup l.fn.gate) in
    let start = g.G.SelectGate.start (g.G.SelectGate.setup l.fn.gate) in record {
      within : l.arm < count;
      withdrawn : Withdraws g.G.SelectGate.withdraws count start l.spared l.fn.gate l.counter
          l.arm l.gate;
      spared : (arm : ℕ) → l.spared ≡ Some arm → g.G.SelectGate.is_done l.fn.gate arm
          → g.G.SelectGate.is_done l.gate arm;
      setup : g.G.SelectGate.setup l.gate ≡ g.G.SelectGate.setup l.fn.gate;
    }
