-- Nothing is done yet.
use Rattle.flume_actions.proofs.CallerLemmas.{no_call}
use Rattle.flume.specs.TracedArms.{CanReceiveArm}
use Rattle.flume.proofs.select.traced_recv_arm.TracedRecvArm.new.Goals as goal

pub invariant_of-result : goal.invariant_of-result
invariant_of-result g c =
    let can : CanReceiveArm c.of-start.result.value c.new.result.state c.new.result.me =
    rw (c.of-start.ensures, c.new.ensures.unstarted, c.new.ensures.party) (no_call c.args.me) in
    can
