-- What the party did.
use Rattle.flume.proofs.TracedReceiveLemmas.{received_many, received_got}
use Rattle.flume.proofs.traced.recv_many.Receiver+T+R+A+Traced+T+A+J.recv_many_timeout.Goals as goal

pub returns-clause-made : goal.returns-clause-made
returns-clause-made g c =
    let did = c.recv_many_until.ensures in received_many c.args.most did.nothing did.none did.did

pub returns-clause-called : goal.returns-clause-called
returns-clause-called g c = received_got (returns-clause-made g c)
