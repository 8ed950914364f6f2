-- It isn't too late, since it has no deadline.
use Rattle.std.proofs.Common.{refl, ◌∙◌, ap, subst}
use Rattle.flume.specs.CallSteps.{send_as_timed}
use Rattle.flume.specs.GateSteps.{Sends}
use Rattle.flume.specs.PartySteps.{SendsToFullOf}
use Rattle.flume.proofs.InTimeLemmas.{send_in_time}
use Rattle.flume.proofs.sender.Sender.send_to_full.Goals as goal

pub send_answer-requires : goal.send_answer-requires
send_answer-requires g c = record { in_time = send_in_time c.send_to_full_until.ensures.made.1 refl }

pub returns-clause-made : goal.returns-clause-made
returns-clause-made g c =
    subst (λ ended. Sends _ _ c.args.message ended) c.send_answer.ensures.outcome c.send_to_full_until.ensures.made

pub returns-clause-no_memory : goal.returns-clause-no_memory
returns-clause-no_memory g c = λ back said.
    c.send_to_full_until.ensures.no_memory back (c.send_answer.ensures.outcome ∙ ap send_as_timed said)

pub returns-clause-did : goal.returns-clause-did
returns-clause-did g c =
    subst (λ ended. SendsToFullOf g.K.Keeper.did c.args.me.now c.args.message c.send_to_full_until.new.me ended)
    c.send_answer.ensures.outcome c.send_to_full_until.ensures.did
