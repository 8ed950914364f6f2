-- What the party did through the gate.
use Rattle.std.proofs.Common.{subst, rules}
use Rattle.flume.specs.PartySteps.{ReceivesOf}
use Rattle.flume.proofs.receiver.Receiver.recv_until.Goals as goal

pub returns-clause-did : goal.returns-clause-did
returns-clause-did g c =
    subst (λ new. ReceivesOf g.K.Keeper.did c.args.me.now new c.receive.result) (search rules)
    (rw c.new-gate.ensures.party at c.receive.ensures.did)
