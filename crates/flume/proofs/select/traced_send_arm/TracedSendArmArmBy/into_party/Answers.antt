-- What the party did, with a withdrawal if it was parked.
use Rattle.flume.proofs.SendArmLemmas.{send_left}
use Rattle.flume.proofs.select.traced_send_arm.TracedSendArmArmBy.into_party.Goals as goal

pub returns : goal.returns
returns g c = record {
  stands_by = λ idle. rw (← c.self.view_is)
      (send_left _ _ _ _ c.self.inside.arm.state _ c.self.invariant c.withdraw.ensures.did);
}
