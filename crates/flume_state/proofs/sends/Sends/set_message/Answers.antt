use Rattle.std.proofs.Common.{refl, sym, ap, ◌∙◌}
use Rattle.flume_state.specs.layout.Pairing.{sends_in, at_message}
use Rattle.flume_state.specs.layout.SendLayout.{by_ticket}
use Rattle.flume_state.proofs.ByTicketLemmas.{stands_written}
use Rattle.flume_state.proofs.SendStepLemmas.{written_kept}
use Rattle.flume_state.proofs.LinkLemmas.{seat, written_sends, link_written}
use Rattle.flume_state.proofs.sends.Sends.set_message.Goals as goal

pub invariant_of-self-2 : goal.invariant_of-self-2
invariant_of-self-2 g c =
    let items = c.self.inside.chain in
    let s = seat items c.args.place _ c.facts.ensures.apart c.facts.ensures.single c.in-Some.ensures.value in
    rw (written_sends items c.args.place _) (written_kept (sends_in items) _ _ _ _ _ refl s.1.occupied c.self.invariant)

pub returns-clause-live : goal.returns-clause-live
returns-clause-live g c =
    let items = c.self.inside.chain in
    let s = (seat items c.args.place _ c.facts.ensures.apart c.facts.ensures.single c.in-Some.ensures.value).1.occupied in
    rw (sym c.self.view_is) (ap by_ticket (written_sends items c.args.place _ ∙ stands_written _ _ _ _ _ s ∙ sym s.is))

pub returns-clause-link : goal.returns-clause-link
returns-clause-link g c =
    let s = seat _ c.args.place _ c.facts.ensures.apart c.facts.ensures.single c.in-Some.ensures.value in
    rw (sym c.self.view_is) (link_written _ _ _ (at_message c.args.message) _ _ refl s.1.is)
