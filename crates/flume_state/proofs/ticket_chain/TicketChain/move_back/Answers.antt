use Rattle.flume_state.proofs.TicketEditLemmas.{moved_agrees}
use Rattle.flume_state.proofs.ticket_chain.TicketChain.move_back.Goals as goal

pub invariant_of-self : goal.invariant_of-self
invariant_of-self g c = rw (c.move_back.ensures.moved) (moved_agrees _ _ c.args.place c.self.invariant)
