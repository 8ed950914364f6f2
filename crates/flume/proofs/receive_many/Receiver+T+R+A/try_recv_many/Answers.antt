-- What the party of no trace did.
use Rattle.flume.proofs.ManyReceiveStepLemmas.{first_made}
use Rattle.flume.proofs.receive_many.Receiver+T+R+A.try_recv_many.Goals as goal

pub returns-clause-made : goal.returns-clause-made
returns-clause-made g c some = first_made (c.try_recv_many_as.ensures.did some)
