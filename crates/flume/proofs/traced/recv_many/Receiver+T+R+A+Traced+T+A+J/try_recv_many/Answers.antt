-- What the party did.
use Rattle.std.proofs.Common.{ap}
use Rattle.flume.specs.CallSteps.{try_receive_as_turn}
use Rattle.flume.proofs.TracedReceiveLemmas.{tried_many, tried_got}
use Rattle.flume.proofs.traced.recv_many.Receiver+T+R+A+Traced+T+A+J.try_recv_many.Goals as goal

pub returns-clause-made : goal.returns-clause-made
returns-clause-made g c =
    let did = c.try_recv_many_as.ensures in
    tried_many c.args.most did.nothing (λ none. ap try_receive_as_turn (did.none none)) did.did

pub returns-clause-called : goal.returns-clause-called
returns-clause-called g c = tried_got (returns-clause-made g c)
