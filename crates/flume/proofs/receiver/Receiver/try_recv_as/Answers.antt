-- What the one turn answers.
use Rattle.std.proofs.Common.{◌∙◌, ap, subst}
use Rattle.flume_model.specs.declared.step.Step.TheVariants.{TryRecv}
use Rattle.flume_calls.specs.ReceiveTurns.{HadMemory, after_try_recv}
use Rattle.flume.specs.CallSteps.{try_receive_as_turn}
use Rattle.flume.specs.LockedTurns.{HasMade}
use Rattle.flume.specs.PartySteps.{FirstReceiveOf}
use Rattle.flume.proofs.StepLemmas.{one_step, step_made}
use Rattle.flume.proofs.receiver.Receiver.try_recv_as.Goals as goal

pub call_step-requires : goal.call_step-requires
call_step-requires g c = record { one_step = λ old new answer does. one_step does.0 }

pub returns-clause-made : goal.returns-clause-made
returns-clause-made g c =
    subst (λ turn. HasMade TryRecv after_try_recv turn) c.try_receive_answer.ensures.turn (step_made c.call_step.ensures.made)

pub returns-clause-never_no_memory : goal.returns-clause-never_no_memory
returns-clause-never_no_memory g c said =
    subst (λ turn. HadMemory turn) (c.try_receive_answer.ensures.turn ∙ ap try_receive_as_turn said) c.call_step.ensures.answers.1

pub returns-clause-did : goal.returns-clause-did
returns-clause-did g c =
    subst (λ turn. FirstReceiveOf g.K.Keeper.did c.args.me.now c.call_step.new.me turn) c.try_receive_answer.ensures.turn c.call_step.ensures.did
