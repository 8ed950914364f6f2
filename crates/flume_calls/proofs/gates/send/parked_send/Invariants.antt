use Rattle.flume_calls.specs.SendGates.{ParkedSend}
use Rattle.flume_calls.proofs.gates.send.parked_send.Given as goal

-- every run from here is the end of a run of the call
abbrev pub invariant-loop : goal.invariant-loop
invariant-loop g l = record {
  from_here : (new : _) (result : _) → ParkedSend g.G.SendGate.parked_turn g.G.SendGate.waits l.gate l.call new result
      → ParkedSend g.G.SendGate.parked_turn g.G.SendGate.waits l.fn.gate l.fn.call new result;
  on : (goal.iterator-loop g).can_next l.iterator' × (goal.iterator-loop g).is_finite l.iterator';
}
