-- What the party did.
use Rattle.flume.proofs.SendArmLemmas.{send_withdrew}
use Rattle.flume.proofs.select.traced_send_arm.TracedSendArmArmTurns.withdraw.Goals as goal

pub invariant_of-self : goal.invariant_of-self
invariant_of-self g c = send_withdrew _ _ _ _ c.self.inside.arm.state _ c.self.invariant c.withdraw.ensures.did
