-- What the party of no trace did, with no deadline.
use Rattle.std.proofs.Common.{◌∙◌, ap, subst}
use Rattle.flume.specs.CallSteps.{receive_as_timed}
use Rattle.flume.specs.ManyReceiveSteps.{ReceivesMany}
use Rattle.flume.proofs.ManyReceiveLemmas.{waited_leaves, waited_none}
use Rattle.flume.proofs.ManyReceiveStepLemmas.{many_made, many_lacks}
use Rattle.flume.proofs.receive_many.Receiver+T+R+A.recv_many.Goals as goal

pub returns-clause-made : goal.returns-clause-made
returns-clause-made g c some =
    subst (λ result. ReceivesMany g.row.A.Denot c.args.buffer.now.items c.recv_many_until.new.buffer.items result)
    c.receive_answer.ensures.outcome (many_made (c.recv_many_until.ensures.did some))

pub returns-clause-appended : goal.returns-clause-appended
returns-clause-appended g c =
    waited_leaves c.args.most _ _ c.receive_answer.result c.receive_answer.ensures.outcome c.recv_many_until.ensures.appended

pub returns-clause-none : goal.returns-clause-none
returns-clause-none g c none =
    waited_none 0 c.receive_answer.result c.receive_answer.ensures.outcome (c.recv_many_until.ensures.none none)

pub returns-clause-no_memory : goal.returns-clause-no_memory
returns-clause-no_memory g c said =
    many_lacks c.args.most c.recv_many_until.ensures.none c.recv_many_until.ensures.did
    (c.receive_answer.ensures.outcome ∙ ap receive_as_timed said)
