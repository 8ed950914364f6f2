-- Which way each turn takes a parked receive.
use Rattle.std.proofs.Common.{refl, inl, inr}
use Rattle.flume_calls.specs.ReceiveGates.{Asked, Withdrawn, Expired, Waited}
use Rattle.flume_calls.proofs.gates.receive.parked_receive.Goals as goal

pub returns-in-Done-clause-run : goal.returns-in-Done-clause-run
returns-in-Done-clause-run g c = c.loop.invariant.from_here _ _ (Asked c.in-Done.ensures.does)

pub returns-in-Refused-clause-run : goal.returns-in-Refused-clause-run
returns-in-Refused-clause-run g c =
    let back = c.withdraw_refused.ensures.withdraws in c.loop.invariant.from_here _ _ (Withdrawn c.in-Refused.ensures.does back.1 back.2)

pub returns-then-wait-clause-run : goal.returns-then-wait-clause-run
returns-then-wait-clause-run g c =
    c.loop.invariant.from_here _ _ (Expired c.in-Park.ensures.does c.if-wait.ensures.does c.in-Done-again.ensures.does)

pub loop-preserved : goal.loop-preserved
loop-preserved g c = record {
  from_here = λ new result rest. c.loop.invariant.from_here _ _ (Waited c.in-Park.ensures.does c.if-wait.ensures.does rest);
  ready = c.if-wait.ensures.ready (c.in-Park.ensures.ready _ (inl refl));
  on = (tt, tt);
}

pub withdraw_refused-requires : goal.withdraw_refused-requires
withdraw_refused-requires g c = record { ready = c.in-Refused.ensures.ready _ (inr refl) }

pub again-requires-then-wait : goal.again-requires-then-wait
again-requires-then-wait g c = record { ready = c.if-wait.ensures.ready (c.in-Park.ensures.ready _ (inl refl)) }
