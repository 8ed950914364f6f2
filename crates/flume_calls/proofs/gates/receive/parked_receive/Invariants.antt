use Rattle.flume_calls.specs.ReceiveGates.{ParkedReceive}
use Rattle.flume_calls.proofs.gates.receive.parked_receive.Given as goal

-- every run from here is the end of a run of the call, and the gate is armed
abbrev pub invariant-loop : goal.invariant-loop
invariant-loop g l = record {
  from_here : (new : _) (result : _) → ParkedReceive g.G.RecvGate.parked_turn g.G.RecvGate.waits l.gate l.call new result
      → ParkedReceive g.G.RecvGate.parked_turn g.G.RecvGate.waits l.fn.gate l.fn.call new result;
  ready : g.G.RecvGate.can_park l.gate;
  on : (goal.iterator-loop g).can_next l.iterator' × (goal.iterator-loop g).is_finite l.iterator';
}
