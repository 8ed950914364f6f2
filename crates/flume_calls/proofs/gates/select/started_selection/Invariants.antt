use Rattle.std.proofs.Common.{◌≡◌, true}
use Rattle.flume_calls.specs.SelectGates.{StartedSelection}
use Rattle.flume_calls.proofs.gates.select.started_selection.Given as goal

-- every run from here is the end of a run of the selection
abbrev pub invariant-loop : goal.invariant-loop
invariant-loop g l =
    let count = g.G.SelectGate.count (g.G.SelectGate.setup l.fn.gate) in
    let start = g.G.SelectGate.start (g.G.SelectGate.setup l.fn.gate) in record {
      from_here : (new : _) (result : _)
          → StartedSelection (g.G.SelectGate.turns true) g.G.SelectGate.waits g.G.SelectGate.withdraws
          count start l.gate new result
          → StartedSelection (g.G.SelectGate.turns true) g.G.SelectGate.waits g.G.SelectGate.withdraws
          count start l.fn.gate new result;
      setup : g.G.SelectGate.setup l.gate ≡ g.G.SelectGate.setup l.fn.gate;
      on : (goal.iterator-loop g).can_next l.iterator' × (goal.iterator-loop g).is_finite l.iterator';
    }
