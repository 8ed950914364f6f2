-- What the party did, by the result of the arm.
use Rattle.std.proofs.Common.{sym, ◌∙◌}
use Rattle.flume.proofs.ReceiveArmLemmas.{received_result}
use Rattle.flume.proofs.select.traced_recv_arm.TracedRecvArmArmBy.value_by.Goals as goal

pub returns-in-Some-clause-completes : goal.returns-in-Some-clause-completes
returns-in-Some-clause-completes g c = rw (← c.self.view_is) (record {
  result = c.in-Some.result;
  completed = c.in-Some.ensures.completes;
  mapped = c.mapper.ensures;
  gave = received_result _ _ c.self.inside.arm.state _ (sym c.in-Some.is ∙ c.into_result.ensures.result) c.self.invariant;
})
