-- It withdraws, if it is parked, and no message comes with that.
use Rattle.flume.proofs.ReceiveArmLemmas.{receive_withdrew, receive_left, none_handed}
use Rattle.flume.proofs.select.traced_recv_arm.ReceiveArm+T+R+A+Traced+T+A+J.leave_without_message.Goals as goal

pub unreachable-requires : goal.unreachable-requires
unreachable-requires g c =
    none_handed _ _ _ c.args.self.now.state c.in-Some.message _ _ c.requires.can c.in-Some.ensures.did c.confirm.ensures.part

pub returns-clause-can : goal.returns-clause-can
returns-clause-can g c =
    receive_withdrew _ _ _ c.args.self.now.state _ c.requires.can (rw c.in_default.is at c.withdraw.ensures.did)

pub returns-clause-none : goal.returns-clause-none
returns-clause-none g c = λ none.
    receive_left _ _ _ c.args.self.now.state _ c.requires.can (rw c.in_default.is at c.withdraw.ensures.did) none
