-- What the party did.
use Rattle.flume.proofs.TracedLemmas.{has_stepped}
use Rattle.flume.proofs.traced.Receiver+T+R+A+Traced+T+A+J.set_capacity.Goals as goal

pub returns : goal.returns
returns g c = record { made = has_stepped c.set_capacity.ensures.did }
