use Rattle.flume_laws.proofs.SumLemmas.{same_sum}
use Rattle.flume_laws.proofs.laws.every_sum_is_kept.Goals as goal

pub returns : goal.returns
returns g c = record { law = same_sum }
