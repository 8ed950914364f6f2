-- What the party did.
use Rattle.flume.proofs.SendArmLemmas.{send_turned}
use Rattle.flume.proofs.select.traced_send_arm.TracedSendArmArmTurns.turn.Goals as goal

pub invariant_of-self : goal.invariant_of-self
invariant_of-self g c = send_turned _ _ _ _ _ c.self.inside.arm.state _ _ c.self.invariant c.turn.ensures.did
