-- What the party did, by the result of the arm.
use Rattle.std.proofs.Common.{sym, ◌∙◌}
use Rattle.flume.proofs.SendArmLemmas.{sent_result}
use Rattle.flume.proofs.select.traced_send_arm.TracedSendArmArmBy.value_by.Goals as goal

pub returns-in-Some-clause-completes : goal.returns-in-Some-clause-completes
returns-in-Some-clause-completes g c = rw (← c.self.view_is) (record {
  result = c.in-Some.result;
  completed = c.in-Some.ensures.completes;
  mapped = c.mapper.ensures;
  gave = sent_result _ _ _ c.self.inside.arm.state _ (sym c.in-Some.is ∙ c.into_result.ensures.result) c.self.invariant;
})

pub returns-in-Some-clause-maps : goal.returns-in-Some-clause-maps
returns-in-Some-clause-maps g c =
    rw (← c.self.view_is) (c.in-Some.result, c.in-Some.ensures.completes, c.mapper.ensures)
