-- What the one turn answers.
use Rattle.std.proofs.Common.{◌∙◌, ap, subst}
use Rattle.flume_model.specs.declared.step.Step.TheVariants.{TrySend}
use Rattle.flume_calls.specs.SendTurns.{IsFirstAnswer, after_try_send}
use Rattle.flume.specs.CallSteps.{try_send_as_turn}
use Rattle.flume.specs.LockedTurns.{HasMade}
use Rattle.flume.specs.PartySteps.{FirstSendOf}
use Rattle.flume.proofs.StepLemmas.{one_step, step_made}
use Rattle.flume.proofs.sender.Sender.try_send_as.Goals as goal

pub call_step-requires : goal.call_step-requires
call_step-requires g c = record { one_step = λ old new answer does. one_step does.0 }

pub returns-clause-made : goal.returns-clause-made
returns-clause-made g c =
    subst (λ turn. HasMade (TrySend c.args.message) after_try_send turn) c.try_send_answer.ensures.turn (step_made c.call_step.ensures.made)

pub returns-clause-full : goal.returns-clause-full
returns-clause-full g c = λ back said.
    subst (λ turn. IsFirstAnswer c.args.message turn) (c.try_send_answer.ensures.turn ∙ ap try_send_as_turn said)
    c.call_step.ensures.answers

pub returns-clause-disconnected : goal.returns-clause-disconnected
returns-clause-disconnected g c = λ back said.
    subst (λ turn. IsFirstAnswer c.args.message turn) (c.try_send_answer.ensures.turn ∙ ap try_send_as_turn said)
    c.call_step.ensures.answers

pub returns-clause-no_memory : goal.returns-clause-no_memory
returns-clause-no_memory g c = λ back said.
    subst (λ turn. IsFirstAnswer c.args.message turn) (c.try_send_answer.ensures.turn ∙ ap try_send_as_turn said)
    c.call_step.ensures.answers

pub returns-clause-did : goal.returns-clause-did
returns-clause-did g c =
    subst (λ turn. FirstSendOf g.K.Keeper.did c.args.me.now c.args.message c.call_step.new.me turn) c.try_send_answer.ensures.turn c.call_step.ensures.did
