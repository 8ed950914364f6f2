-- What the party did.
use Rattle.flume.proofs.polled.traced_receive.PartyRecvFutTracedFuture.poll.Goals as goal

pub returns-in-None-clause-again : goal.returns-in-None-clause-again
returns-in-None-clause-again g c =
    let can = rw (← c.in-Some.ensures.value) at c.requires in
    c.in-None.ensures.goes_on _ can
