-- The value is the mapper's, of the result of the arm.
use Rattle.flume.proofs.select.send_arm.SendArmArm.value.Goals as goal

pub returns-in-Some-clause-maps : goal.returns-in-Some-clause-maps
returns-in-Some-clause-maps g c = (c.in-Some.result, c.in-Some.ensures.completes, c.mapper.ensures)
