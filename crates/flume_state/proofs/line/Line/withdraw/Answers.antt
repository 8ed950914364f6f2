use Rattle.flume_state.proofs.PairLemmas.{none_under, is_blocked, withdraws}
use Rattle.flume_state.proofs.line.Line.withdraw.Goals as goal

pub returns-in_err-send_place-clause-absent : goal.returns-in_err-send_place-clause-absent
returns-in_err-send_place-clause-absent g c =
    rw c.from_residual.ensures (rw (← c.self.view_is)
    (none_under _ c.args.ticket _ c.in_err-send_place.ensures.absent c.self.invariant.held))

pub returns-in_err-message-clause-absent : goal.returns-in_err-message-clause-absent
returns-in_err-message-clause-absent g c =
    absurd (is_blocked _ _ c.in_ok-send_place.send_place c.args.ticket c.in_ok-send_place.place c.self.invariant
    c.in_ok-send_place.ensures.found c.in_err-message.ensures.absent)

pub invariant_of-self-2 : goal.invariant_of-self-2
invariant_of-self-2 g c =
    (withdraws _ _ _ _ _ _ _ _ c.self.invariant c.facts.ensures.apart c.in_ok-send_place.ensures.found c.in_ok-send_place.ensures.only
    c.in_ok-message.ensures.taken c.spend.ensures.link c.spend.ensures.live).paired

pub returns-clause-taken : goal.returns-clause-taken
returns-clause-taken g c =
    rw (← c.self.view_is)
    (withdraws _ _ _ _ _ _ _ _ c.self.invariant c.facts.ensures.apart c.in_ok-send_place.ensures.found c.in_ok-send_place.ensures.only
    c.in_ok-message.ensures.taken c.spend.ensures.link c.spend.ensures.live).holds
