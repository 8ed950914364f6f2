-- What the party did.
use Rattle.std.proofs.Common.{refl}
use Rattle.flume_actions.proofs.CallerLemmas.{no_call}
use Rattle.flume.proofs.TracedSendPollLemmas.{sends_on}
use Rattle.flume.proofs.polled.traced_sink.PartySendSink+T+R+A+Traced+T+A+J.poll_sent.Goals as goal

pub returns-in-None-clause-called : goal.returns-in-None-clause-called
returns-in-None-clause-called g c =
    rw (← c.in-None.ensures.value) (no_call c.args.self.now.start.value)

pub returns-in-Some-poll-clause-called : goal.returns-in-Some-poll-clause-called
returns-in-Some-poll-clause-called g c =
    let can = rw (← c.in-Some-take.ensures.value, ← c.in-Some.ensures.value) at c.requires.can_poll in
    let did = c.in-Some-poll.ensures.did in
    rw (c.of.ensures, ← c.in-Some.ensures.value) (sends_on _ _ _ _ _ _ _ can did.answered did.made).called

pub returns-in-None-clause-answered : goal.returns-in-None-clause-answered
returns-in-None-clause-answered g c = rw (← c.in-None.ensures.value) refl

pub returns-in-Some-poll-clause-answered : goal.returns-in-Some-poll-clause-answered
returns-in-Some-poll-clause-answered g c =
    let can = rw (← c.in-Some-take.ensures.value, ← c.in-Some.ensures.value) at c.requires.can_poll in
    let did = c.in-Some-poll.ensures.did in
    rw (c.of.ensures, ← c.in-Some.ensures.value) (sends_on _ _ _ _ _ _ _ can did.answered did.made).ended

pub returns-in-Some-poll-clause-can_poll : goal.returns-in-Some-poll-clause-can_poll
returns-in-Some-poll-clause-can_poll g c =
    rw (c.of.ensures, c.take.ensures.after) (no_call c.poll.new.me)

pub returns-in-None-poll-clause-can_poll : goal.returns-in-None-poll-clause-can_poll
returns-in-None-poll-clause-can_poll g c =
    let can = rw (← c.in-Some-take.ensures.value, ← c.in-Some.ensures.value) at c.requires.can_poll in
    let did = c.in-None-poll.ensures.did in
    sends_on _ _ _ _ _ _ _ can did.answered did.made
