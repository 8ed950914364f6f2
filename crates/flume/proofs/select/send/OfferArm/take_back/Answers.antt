-- The step was made, by the arm's party.
use Rattle.std.proofs.Common.{refl}
use Rattle.flume.proofs.StepLemmas.{step_made}
use Rattle.flume.proofs.select.send.OfferArm.take_back.Goals as goal

pub returns-clause-withdrawn : goal.returns-clause-withdrawn
returns-clause-withdrawn g c = (_, step_made c.call_cold.ensures.made)

pub returns-clause-did : goal.returns-clause-did
returns-clause-did g c = (c.in-Done.result, refl, c.in-Done.ensures.did)
