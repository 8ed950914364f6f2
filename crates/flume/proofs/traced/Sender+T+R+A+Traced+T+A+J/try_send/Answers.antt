-- What the party did.
use Rattle.flume.proofs.TracedLemmas.{has_stepped}
use Rattle.flume.proofs.TracedCallLemmas.{try_sent_called}
use Rattle.flume.proofs.traced.Sender+T+R+A+Traced+T+A+J.try_send.Goals as goal

pub returns-clause-made : goal.returns-clause-made
returns-clause-made g c = has_stepped c.try_send_as.ensures.did

pub returns-clause-called : goal.returns-clause-called
returns-clause-called g c = try_sent_called _ _ (has_stepped c.try_send_as.ensures.did)
