use Rattle.flume_model.proofs.TheoremLemmas.{throughout}
use Rattle.flume_model.proofs.laws.theorem_holds_throughout.Goals as goal

pub returns : goal.returns
returns g c = record { law = throughout }
