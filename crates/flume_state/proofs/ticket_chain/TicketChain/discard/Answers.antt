use Rattle.std.proofs.Common.{option_map, sym, ap, ◌∙◌}
use Rattle.flume_chain.specs.ChainState.{found}
use Rattle.flume_chain.proofs.ChainLemmas.{without_missing}
use Rattle.flume_chain.proofs.ChainListLemmas.{missing}
use Rattle.flume_state.proofs.TicketLemmas.{left_agrees}
use Rattle.flume_state.proofs.ticket_chain.TicketChain.discard.Goals as goal

pub returns-in_default : goal.returns-in_default
returns-in_default g c = record { removed = sym (without_missing _ c.args.place (sym (missing _ _ c.in_default.ensures.ticket))) }

pub invariant_of-self : goal.invariant_of-self
invariant_of-self g c =
    let read = c.in-Some.ensures.ticket ∙ ap (λ x. option_map (λ e. e.label) (found x c.args.place)) (sym c.self.view_is) in
    rw (c.discard.ensures.removed, c.remove.ensures.removed)
    (left_agrees c.self.inside.chain.items c.self.inside.places c.args.place c.in-Some.ticket read c.self.invariant)
