use Rattle.flume_model.proofs.users.AllBlockingLemmas.{within_capacity, rendezvous}
use Rattle.flume_model.proofs.laws.users.blocking_receivers_keep_the_queue_within_capacity.Goals as goal

pub returns : goal.returns
returns g c = record { law = within_capacity; rendezvous = rendezvous }
