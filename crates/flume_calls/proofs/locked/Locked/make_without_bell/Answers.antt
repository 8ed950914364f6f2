-- No ticket is due after the turn.
use Rattle.flume_calls.proofs.NoCallWaitsLemmas.{stays_at_rest}
use Rattle.flume_calls.proofs.locked.Locked.make_without_bell.Goals as goal

pub invariant_of-self : goal.invariant_of-self
invariant_of-self g c =
    let one_step = rw (← c.self.view_is) at c.requires.one_step in
    let no_call_waits = rw (← c.self.view_is) at c.requires.no_call_waits in
    stays_at_rest _ _ c.self.invariant no_call_waits (one_step _ _ c.apply-made.ensures.does)
    (λ reachable. (_, (c.facts.ensures.facts reachable).receiver_tickets_are_apart))
