-- What the party did.
use Rattle.flume.proofs.TracedSendPollLemmas.{sends_on}
use Rattle.flume.proofs.polled.traced_send.PartySendFutTracedFuture.poll.Goals as goal

pub returns-in-Some-poll-clause-value : goal.returns-in-Some-poll-clause-value
returns-in-Some-poll-clause-value g c =
    let can = rw (← c.in-Some.ensures.value) at c.requires in
    let did = c.in-Some-poll.ensures.did in
    sends_on _ _ _ _ _ _ _ can did.answered did.made

pub returns-in-None-clause-again : goal.returns-in-None-clause-again
returns-in-None-clause-again g c =
    let can = rw (← c.in-Some.ensures.value) at c.requires in
    let did = c.in-None.ensures.did in
    sends_on _ _ _ _ _ _ _ can did.answered did.made
