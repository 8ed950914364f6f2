use Rattle.std.proofs.Common.{nat_eq, Some, sym, ap, ◌∙◌}
use Rattle.std.specs.Option.{option_eq}
use Rattle.flume_state.specs.layout.WithTicket.{place_of}
use Rattle.flume_state.proofs.TicketLemmas.{label_place}
use Rattle.flume_state.proofs.ticket_chain.TicketChain.find_among_many.Goals as goal

pub returns-then-eq : goal.returns-then-eq
returns-then-eq g c =
    let read = c.copied.ensures ∙ c.label.ensures.found in
    let seen = ap (λ l. option_eq nat_eq l (Some c.args.ticket)) (sym read) ∙ sym c.eq.ensures ∙ c.if-eq.true in
    let place = label_place c.self.inside.chain.items c.get-recent.result c.args.ticket c.self.invariant.apart c.self.invariant.single
    seen in
    record { place = sym place ∙ ap (place_of c.args.ticket) c.self.view_is }
