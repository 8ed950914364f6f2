use Rattle.flume_state.proofs.TicketLemmas.{empty_agrees}
use Rattle.flume_state.proofs.ticket_chain.TicketChain.new.Goals as goal

pub invariant_of-result : goal.invariant_of-result
invariant_of-result g c = empty_agrees _ _ _ c.new.ensures.empty c.new-2.ensures.empty
