-- What the party of no trace did.
use Rattle.flume.proofs.ManyReceiveStepLemmas.{many_made, many_lacks}
use Rattle.flume.proofs.receive_many.Receiver+T+R+A.recv_many_deadline.Goals as goal

pub returns-clause-made : goal.returns-clause-made
returns-clause-made g c some = many_made (c.recv_many_until.ensures.did some)

pub returns-clause-no_memory : goal.returns-clause-no_memory
returns-clause-no_memory g c = many_lacks c.args.most c.recv_many_until.ensures.none c.recv_many_until.ensures.did
