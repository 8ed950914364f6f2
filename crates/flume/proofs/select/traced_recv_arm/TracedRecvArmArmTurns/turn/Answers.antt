-- What the party did.
use Rattle.flume.proofs.ReceiveArmLemmas.{receive_turned}
use Rattle.flume.proofs.select.traced_recv_arm.TracedRecvArmArmTurns.turn.Goals as goal

pub invariant_of-self : goal.invariant_of-self
invariant_of-self g c = receive_turned _ _ _ _ c.self.inside.arm.state _ _ c.self.invariant c.turn.ensures.did
