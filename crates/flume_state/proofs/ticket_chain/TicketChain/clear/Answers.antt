use Rattle.flume_state.proofs.TicketLemmas.{empty_agrees}
use Rattle.flume_state.proofs.ticket_chain.TicketChain.clear.Goals as goal

pub invariant_of-self : goal.invariant_of-self
invariant_of-self g c = empty_agrees _ _ _ c.clear.ensures.empty c.clear-then-len-gt0.ensures.empty
