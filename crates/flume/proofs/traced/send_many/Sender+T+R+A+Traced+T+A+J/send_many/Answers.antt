-- What the party sent. It isn't too late, since it has no deadline.
use Rattle.std.proofs.Common.{◌∙◌, ap, subst}
use Rattle.std.specs.Vec.{vec_items}
use Rattle.flume.specs.CallSteps.{send_as_timed}
use Rattle.flume_deadline.specs.declared.Deadline.TheVariants.{Never}
use Rattle.flume.specs.ManySendSteps.{SendsManyOf, result_list}
use Rattle.flume.specs.TracedSends.{HasSentMany, has_added}
use Rattle.flume.proofs.TracedSendLemmas.{sent_many}
use Rattle.flume.proofs.traced.send_many.Sender+T+R+A+Traced+T+A+J.send_many.Goals as goal

pub returns-clause-called : goal.returns-clause-called
returns-clause-called g c =
    subst (λ ended. HasSentMany c.args.me.now c.args.messages.items c.send_many_until.new.me (result_list vec_items ended))
    c.send_answer.ensures.outcome (sent_many c.send_many_until.ensures.did)

pub returns-clause-made : goal.returns-clause-made
returns-clause-made g c =
    subst (λ ended. SendsManyOf has_added Never c.args.me.now c.args.messages.items c.send_many_until.new.me (result_list vec_items ended))
    c.send_answer.ensures.outcome c.send_many_until.ensures.did

pub returns-clause-disconnected : goal.returns-clause-disconnected
returns-clause-disconnected g c = λ rest said.
    c.send_many_until.ensures.disconnected rest (c.send_answer.ensures.outcome ∙ ap send_as_timed said)

pub returns-clause-no_memory : goal.returns-clause-no_memory
returns-clause-no_memory g c = λ rest said.
    c.send_many_until.ensures.no_memory rest (c.send_answer.ensures.outcome ∙ ap send_as_timed said)
