-- What the one step answers.
use Rattle.std.proofs.Common.{subst}
use Rattle.flume.specs.Iterators.{after_drain}
use Rattle.flume.proofs.StepLemmas.{one_step, step_made}
use Rattle.flume.proofs.receiver.Receiver.drain_as.Goals as goal

pub call_step-requires : goal.call_step-requires
call_step-requires g c = record { one_step = λ old new answer does. one_step does.0 }

pub returns-clause-made : goal.returns-clause-made
returns-clause-made g c =
    let made = step_made c.call_step.ensures.made in
    record {
      opening = made.opening;
      log = made.log;
      reply = made.reply;
      run = made.run;
      answered = subst (λ reply. after_drain reply c.answer.result) made.answered c.answer.ensures.table;
    }

pub returns-clause-did : goal.returns-clause-did
returns-clause-did g c =
    let did = c.call_step.ensures.did in
    record {
      steps = did.steps;
      answered = record {
        reply = did.answered.reply;
        is = did.answered.is;
        answered = subst (λ reply. after_drain reply c.answer.result) did.answered.answered c.answer.ensures.table;
      };
      made = did.made;
    }
