-- Which way each turn takes a parked send.
use Rattle.flume_calls.specs.SendGates.{Asked, Expired, Waited}
use Rattle.flume_calls.proofs.gates.send.parked_send.Goals as goal

pub returns-in-Done-clause-run : goal.returns-in-Done-clause-run
returns-in-Done-clause-run g c = c.loop.invariant.from_here _ _ (Asked c.in-Done.ensures.does)

pub returns-then-wait-clause-run : goal.returns-then-wait-clause-run
returns-then-wait-clause-run g c =
    c.loop.invariant.from_here _ _ (Expired c.in-Park.ensures.does c.if-wait.ensures.does c.in-Done-again.ensures.does)

pub loop-preserved : goal.loop-preserved
loop-preserved g c = record {
  from_here = λ new result rest. c.loop.invariant.from_here _ _ (Waited c.in-Park.ensures.does c.if-wait.ensures.does rest);
  on = (tt, tt);
}
