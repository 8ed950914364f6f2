-- What the party sent.
use Rattle.flume.proofs.TracedSendLemmas.{sent_many}
use Rattle.flume.proofs.traced.send_many.Sender+T+R+A+Traced+T+A+J.send_many_timeout.Goals as goal

pub returns-clause-called : goal.returns-clause-called
returns-clause-called g c = sent_many c.send_many_until.ensures.did

pub returns-clause-made : goal.returns-clause-made
returns-clause-made g c = (_, c.after-deadline.ensures.after, c.send_many_until.ensures.did)
