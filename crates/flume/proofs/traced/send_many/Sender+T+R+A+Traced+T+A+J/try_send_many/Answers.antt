-- What the party sent.
use Rattle.flume.proofs.TracedSendLemmas.{tried_many}
use Rattle.flume.proofs.traced.send_many.Sender+T+R+A+Traced+T+A+J.try_send_many.Goals as goal

pub returns-clause-called : goal.returns-clause-called
returns-clause-called g c = tried_many _ c.try_send_many_as.ensures.did
