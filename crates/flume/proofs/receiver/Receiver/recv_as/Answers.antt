-- A receive ends with its first turn, or goes on from the channel that it found empty.
use Rattle.std.proofs.Common.{refl, subst}
use Rattle.flume_calls.specs.declared.calls.receive.RecvNext.TheVariants.{Done}
use Rattle.flume_calls.specs.ReceiveTurns.{IsFirstAnswer}
use Rattle.flume_calls.specs.ReceiveGates.{AtFirst}
use Rattle.flume_deadline.specs.declared.Deadline.TheVariants.{Never}
use Rattle.flume.specs.GateSteps.{Receives}
use Rattle.flume.proofs.StepLemmas.{one_step, step_made}
use Rattle.flume.proofs.receiver.Receiver.recv_as.Goals as goal

pub call_step-requires : goal.call_step-requires
call_step-requires g c = record { one_step = λ old new answer does. one_step does.0 }

pub receive_answer-requires : goal.receive_answer-requires
receive_answer-requires g c = record {
  in_time = λ late. subst (λ r. IsFirstAnswer (Done r)) late c.in-Done.ensures.answers.0;
}

pub returns-in-Done-clause-made : goal.returns-in-Done-clause-made
returns-in-Done-clause-made g c =
    subst (λ ended. Receives g.row.A.Denot Never ended) c.receive_answer.ensures.outcome (
      Never,
      AtFirst (record {
        same = refl;
        answers = c.in-Done.ensures.answers.0;
        not_refused = c.in-Done.ensures.answers.1;
        made = step_made c.in-Done.ensures.made;
      }),
    )

pub returns-in-NeedSignal-clause-did : goal.returns-in-NeedSignal-clause-did
returns-in-NeedSignal-clause-did g c = c.recv_from_empty.ensures.did c.args.me.now c.in-NeedSignal.ensures.did
