-- The turn that found no message is the first one. It isn't too late, since it has no deadline.
use Rattle.std.proofs.Common.{subst, rules}
use Rattle.flume.specs.CallSteps.{receive_as_timed}
use Rattle.flume.specs.GateSteps.{Receives}
use Rattle.flume.specs.PartySteps.{ReceivesOf}
use Rattle.flume.proofs.InTimeLemmas.{receive_in_time}
use Rattle.flume.proofs.receiver.Receiver.recv_from_empty.Goals as goal

pub receive_answer-requires : goal.receive_answer-requires
receive_answer-requires g c =
    record { in_time = receive_in_time c.receive_from_empty.ensures.made.1 c.new-gate.ensures.deadline }

pub returns-clause-made : goal.returns-clause-made
returns-clause-made g c =
    subst (λ ended. Receives _ _ ended) c.receive_answer.ensures.outcome
    (rw c.new-gate.ensures.deadline at c.receive_from_empty.ensures.made)

pub returns-clause-did : goal.returns-clause-did
returns-clause-did g c = λ start found.
    let did = c.receive_from_empty.ensures.did start (rw c.new-gate.ensures.party found) in
    let ended = subst (λ ended. ReceivesOf g.K.Keeper.did start c.receive_from_empty.new.self.me.now ended)
    c.receive_answer.ensures.outcome did in
    subst (λ new. ReceivesOf g.K.Keeper.did start new (receive_as_timed c.receive_answer.result)) (search rules) ended
