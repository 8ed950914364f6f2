-- What the party did.
use Rattle.flume.proofs.TracedLemmas.{has_stepped}
use Rattle.flume.proofs.TracedCallLemmas.{drained_called}
use Rattle.flume.proofs.traced.Receiver+T+R+A+Traced+T+A+J.drain.Goals as goal

pub returns-clause-made : goal.returns-clause-made
returns-clause-made g c = has_stepped c.drain_as.ensures.did

pub returns-clause-called : goal.returns-clause-called
returns-clause-called g c = drained_called _ (has_stepped c.drain_as.ensures.did)
