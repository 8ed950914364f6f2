-- What the party did.
use Rattle.flume.proofs.TracedLemmas.{has_sent}
use Rattle.flume.proofs.TracedCallLemmas.{sent_called}
use Rattle.flume.proofs.traced.Sender+T+R+A+Traced+T+A+J.send_timeout.Goals as goal

pub returns-clause-made : goal.returns-clause-made
returns-clause-made g c = has_sent c.send_until.ensures.did

pub returns-clause-called : goal.returns-clause-called
returns-clause-called g c = sent_called _ _ (has_sent c.send_until.ensures.did)
