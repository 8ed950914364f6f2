-- Step by step, since the same steps with the same replies lead to the same channel.
use Rattle.flume_history.proofs.OneRunLemmas.{one_run}
use Rattle.flume_history.proofs.laws.runs_are_determined.Goals as goal

pub returns : goal.returns
returns g c = record { same = one_run }
