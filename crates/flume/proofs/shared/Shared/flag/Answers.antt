-- The step was made.
use Rattle.flume.proofs.StepLemmas.{step_replied}
use Rattle.flume.proofs.shared.Shared.flag.Goals as goal

pub returns : goal.returns
returns g c = record { made = step_replied c.call_unowned.ensures.made }
