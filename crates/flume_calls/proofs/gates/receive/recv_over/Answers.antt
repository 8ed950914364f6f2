-- A receive that its first turn ended, or didn't end.
use Rattle.std.proofs.Common.{inl}
use Rattle.flume_calls.specs.ReceiveGates.{AtFirst}
use Rattle.flume_calls.proofs.gates.receive.recv_over.Goals as goal

pub returns-in-Done : goal.returns-in-Done
returns-in-Done g c = record {
  run = AtFirst c.in-Done.ensures.does;
  no_memory = λ never e. inl (rw e at c.in-Done.ensures.does);
}

pub returns-in-NeedSignal : goal.returns-in-NeedSignal
returns-in-NeedSignal g c = record {
  run = c.waiting_receive.ensures.run _ c.in-NeedSignal.ensures.does;
  no_memory = c.waiting_receive.ensures.no_memory _ c.in-NeedSignal.ensures.does;
}
