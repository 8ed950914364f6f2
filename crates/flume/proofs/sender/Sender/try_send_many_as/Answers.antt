-- The steps of the batch, and what it left of the list.
use Rattle.std.proofs.Common.{sym, ◌∙◌, ap, subst}
use Rattle.std.specs.Vec.{vec_items}
use Rattle.flume_calls.specs.ManySends.{SendsMany}
use Rattle.flume_keeper.specs.Keeps.{Did}
use Rattle.flume.specs.ManySendSteps.{try_result_list}
use Rattle.flume.proofs.ManySendStepLemmas.{batch_made, leaves}
use Rattle.flume.proofs.sender.Sender.try_send_many_as.Goals as goal

pub returns-clause-made : goal.returns-clause-made
returns-clause-made g c = batch_made c.call_many.ensures.made c.from_vec-messages.ensures.items c.try_send_many_answer.ensures.list

pub returns-clause-full : goal.returns-clause-full
returns-clause-full g c = λ rest said.
    leaves _ _ c.call_many.result _ c.call_many.ensures.answers c.from_vec-messages.ensures.items
    (sym c.try_send_many_answer.ensures.list ∙ ap (λ result. try_result_list vec_items result) said)

pub returns-clause-disconnected : goal.returns-clause-disconnected
returns-clause-disconnected g c = λ rest said.
    leaves _ _ c.call_many.result _ c.call_many.ensures.answers c.from_vec-messages.ensures.items
    (sym c.try_send_many_answer.ensures.list ∙ ap (λ result. try_result_list vec_items result) said)

pub returns-clause-no_memory : goal.returns-clause-no_memory
returns-clause-no_memory g c = λ rest said.
    leaves _ _ c.call_many.result _ c.call_many.ensures.answers c.from_vec-messages.ensures.items
    (sym c.try_send_many_answer.ensures.list ∙ ap (λ result. try_result_list vec_items result) said)

pub returns-clause-did : goal.returns-clause-did
returns-clause-did g c = record {
  batch = c.call_many.result;
  turn = subst (λ list. Did g.K.Keeper.did (SendsMany list) c.args.me.now c.call_many.result c.call_many.new.me)
      c.from_vec-messages.ensures.items c.call_many.ensures.did;
  answer_is = c.try_send_many_answer.ensures.list;
}
