use Rattle.flume_laws.proofs.ReplyLemmas.{told_apart}
use Rattle.flume_laws.proofs.laws.requests_are_told_apart.Goals as goal

pub returns : goal.returns
returns g c = record { law = told_apart }
