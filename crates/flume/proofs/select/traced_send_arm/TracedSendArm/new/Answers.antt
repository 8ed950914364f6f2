-- Nothing is done yet.
use Rattle.std.proofs.Common.{refl}
use Rattle.flume_actions.proofs.CallerLemmas.{no_call}
use Rattle.flume.specs.TracedArms.{CanSendArm}
use Rattle.flume.proofs.select.traced_send_arm.TracedSendArm.new.Goals as goal

pub invariant_of-result : goal.invariant_of-result
invariant_of-result g c =
    let can : CanSendArm c.of-start.result.value c.of-offered.result.value c.new.result.state c.new.result.me =
    rw (c.of-start.ensures, c.of-offered.ensures, c.new.ensures.unstarted, c.new.ensures.party) (refl, no_call c.args.me) in
    can
