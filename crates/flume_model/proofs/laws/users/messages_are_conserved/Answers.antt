use Rattle.flume_model.proofs.users.ConservingLemmas.{conserved}
use Rattle.flume_model.proofs.laws.users.messages_are_conserved.Goals as goal

pub returns : goal.returns
returns g c = record { law = conserved }
