use Rattle.flume_core.proofs.TransitionLemmas.{joined}
use Rattle.flume_core.proofs.run.two_runs_are_one.Goals as goal

pub returns : goal.returns
returns g c = record { joined = joined }
