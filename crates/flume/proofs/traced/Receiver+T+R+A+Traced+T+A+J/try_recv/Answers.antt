-- What the party did.
use Rattle.flume.proofs.TracedLemmas.{has_stepped}
use Rattle.flume.proofs.TracedCallLemmas.{try_received_called}
use Rattle.flume.proofs.traced.Receiver+T+R+A+Traced+T+A+J.try_recv.Goals as goal

pub returns-clause-made : goal.returns-clause-made
returns-clause-made g c = has_stepped c.try_recv_as.ensures.did

pub returns-clause-called : goal.returns-clause-called
returns-clause-called g c = try_received_called _ (has_stepped c.try_recv_as.ensures.did)
