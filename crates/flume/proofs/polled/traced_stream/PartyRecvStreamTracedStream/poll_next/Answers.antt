-- What the party did.
use Rattle.std.proofs.Common.{[], subst, rules}
use Rattle.flume_actions.specs.Callers.{HasMadeCalls}
use Rattle.flume_actions.proofs.CallerLemmas.{no_call}
use Rattle.flume.proofs.TracedReceivePollLemmas.{got_item}
use Rattle.flume.proofs.polled.traced_stream.PartyRecvStreamTracedStream.poll_next.Goals as goal

pub returns-in_default-clause-again : goal.returns-in_default-clause-again
returns-in_default-clause-again g c = c.in_default.ensures.goes_on _ c.requires.can_poll

pub returns-in_default-clause-can_poll : goal.returns-in_default-clause-can_poll
returns-in_default-clause-can_poll g c = c.in_default.ensures.goes_on _ c.requires.can_poll

pub returns-clause-goes : goal.returns-clause-goes
returns-clause-goes g c =
    rw (c.of.ensures, c.new-self.ensures.new) (let can = no_call c.poll_once.new.me in search rules)

pub returns-clause-called : goal.returns-clause-called
returns-clause-called g c =
    let made = c.in-Some.ensures.goes_on _ c.requires.can_poll in
    rw (c.of.ensures)
    (subst (HasMadeCalls _ _ []) (got_item _ _ c.as_item-item.ensures.answer) made.called)

pub returns-clause-answered : goal.returns-clause-answered
returns-clause-answered g c =
    let made = c.in-Some.ensures.goes_on _ c.requires.can_poll in
    rw (c.of.ensures, c.as_item-item.ensures.answer) made.ended

pub returns-clause-can_poll : goal.returns-clause-can_poll
returns-clause-can_poll g c =
    rw (c.of.ensures, c.new-self.ensures.new) (no_call c.poll_once.new.me)
