-- What the party did.
use Rattle.flume.proofs.TracedLemmas.{has_received}
use Rattle.flume.proofs.TracedCallLemmas.{received_called}
use Rattle.flume.proofs.traced.Receiver+T+R+A+Traced+T+A+J.recv_deadline.Goals as goal

pub returns-clause-made : goal.returns-clause-made
returns-clause-made g c = has_received c.recv_until.ensures.did

pub returns-clause-called : goal.returns-clause-called
returns-clause-called g c = received_called _ (has_received c.recv_until.ensures.did)
