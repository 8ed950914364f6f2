use Rattle.std.proofs.Common.{◌≡◌, ◌<◌, is_some}
use Rattle.flume_calls.specs.SelectGates.{Waiting}
use Rattle.flume_calls.proofs.gates.select.round.Given as goal

-- the arms before this one had their turns, and wait
abbrev pub invariant-loop-before : goal.invariant-loop-before
invariant-loop-before g l =
    let count = g.G.SelectGate.count (g.G.SelectGate.setup l.fn.gate) in
    let start = g.G.SelectGate.start (g.G.SelectGate.setup l.fn.gate) in record {
      within : l.arm < count;
      waiting : Waiting (g.G.SelectGate.turns (is_some l.waiter)) count start l.fn.gate l.before
          l.arm l.gate;
      setup : g.G.SelectGate.setup l.gate ≡ g.G.SelectGate.setup l.fn.gate;
    }
