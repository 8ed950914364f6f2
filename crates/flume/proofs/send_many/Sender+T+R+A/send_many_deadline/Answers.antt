-- What some channel did.
use Rattle.flume.proofs.ManySendStepLemmas.{sends_up_to}
use Rattle.flume.proofs.send_many.Sender+T+R+A.send_many_deadline.Goals as goal

pub returns-clause-made : goal.returns-clause-made
returns-clause-made g c = sends_up_to c.send_many_until.ensures.did
