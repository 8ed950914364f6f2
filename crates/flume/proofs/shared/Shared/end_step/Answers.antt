-- The step was made.
use Rattle.std.proofs.Common.{sym}
use Rattle.flume.proofs.StepLemmas.{step_made}
use Rattle.flume.proofs.shared.Shared.end_step.Goals as goal

pub returns-clause-made : goal.returns-clause-made
returns-clause-made g c = let made = step_made c.call_unowned.ensures.made in record {
  opening = made.opening;
  log = made.log;
  reply = made.reply;
  run = made.run;
  answered = sym made.answered;
}
