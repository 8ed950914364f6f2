use Rattle.flume_state.proofs.TicketEditLemmas.{written_agrees}
use Rattle.flume_state.proofs.ticket_chain.TicketChain.get_mut.Goals as goal

pub invariant_of-self-lent : goal.invariant_of-self-lent
invariant_of-self-lent g c w = written_agrees w _ _ c.args.place c.self.invariant
