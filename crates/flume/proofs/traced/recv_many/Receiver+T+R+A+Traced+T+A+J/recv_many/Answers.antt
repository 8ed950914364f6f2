-- What the party did, with no deadline.
use Rattle.std.proofs.Common.{subst}
use Rattle.flume_calls.specs.declared.calls.receive.RecvNext.TheVariants.{Done}
use Rattle.flume.specs.ManyReceiveActions.{HasReceivedAs, HasReceivedMany}
use Rattle.flume.proofs.ManyReceiveLemmas.{waited_leaves, waited_none}
use Rattle.flume.proofs.TracedReceiveLemmas.{received_many, received_got}
use Rattle.flume.proofs.traced.recv_many.Receiver+T+R+A+Traced+T+A+J.recv_many.Goals as goal

pub returns-clause-made : goal.returns-clause-made
returns-clause-made g c =
    let did = c.recv_many_until.ensures in
    subst (λ result. HasReceivedMany HasReceivedAs c.args.most c.args.me.now c.args.buffer.now c.recv_many_until.new.me
    c.recv_many_until.new.buffer (Done result)) c.receive_answer.ensures.outcome
    (received_many c.args.most did.nothing did.none did.did)

pub returns-clause-called : goal.returns-clause-called
returns-clause-called g c = received_got (returns-clause-made g c)

pub returns-clause-appended : goal.returns-clause-appended
returns-clause-appended g c =
    waited_leaves c.args.most _ _ c.receive_answer.result c.receive_answer.ensures.outcome c.recv_many_until.ensures.appended

pub returns-clause-none : goal.returns-clause-none
returns-clause-none g c none =
    waited_none 0 c.receive_answer.result c.receive_answer.ensures.outcome (c.recv_many_until.ensures.none none)
