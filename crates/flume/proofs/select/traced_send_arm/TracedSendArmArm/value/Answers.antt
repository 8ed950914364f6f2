-- The value is the mapper's, of the result of the arm.
use Rattle.flume.proofs.select.traced_send_arm.TracedSendArmArm.value.Goals as goal

pub returns-in-Some-clause-maps : goal.returns-in-Some-clause-maps
returns-in-Some-clause-maps g c =
    rw (← c.self.view_is) (c.in-Some.result, c.in-Some.ensures.completes, c.mapper.ensures)
