-- By the lemma on settled histories.
use Rattle.flume_audit.proofs.SettledLemmas.{settled_where_none}
use Rattle.flume_audit.proofs.laws.settled_if_nothing_differs.Goals as goal

pub returns : goal.returns
returns g c = record { law = λ history lists. settled_where_none _ history lists }
