use Rattle.std.proofs.Common.{◌∙◌, ap, subst}
use Rattle.std.specs.Vec.{vec_items}
use Rattle.flume.specs.CallSteps.{send_as_timed}
use Rattle.flume.specs.ManySendSteps.{SendsManyUpTo, result_list}
use Rattle.flume.proofs.ManySendStepLemmas.{sends_up_to}
use Rattle.flume.proofs.send_many.Sender+T+R+A.send_many.Goals as goal

pub returns-clause-made : goal.returns-clause-made
returns-clause-made g c =
    subst (λ ended. SendsManyUpTo g.row.A.Denot _ c.args.messages.items (result_list vec_items ended)) c.send_answer.ensures.outcome
    (sends_up_to c.send_many_until.ensures.did)

pub returns-clause-disconnected : goal.returns-clause-disconnected
returns-clause-disconnected g c = λ rest said.
    c.send_many_until.ensures.disconnected rest (c.send_answer.ensures.outcome ∙ ap send_as_timed said)

pub returns-clause-no_memory : goal.returns-clause-no_memory
returns-clause-no_memory g c = λ rest said.
    c.send_many_until.ensures.no_memory rest (c.send_answer.ensures.outcome ∙ ap send_as_timed said)
