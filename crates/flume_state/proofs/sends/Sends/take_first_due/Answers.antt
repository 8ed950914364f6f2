use Rattle.std.proofs.Common.{refl, sym}
use Rattle.flume_state.specs.Notices.{no_longer_due}
use Rattle.flume_state.specs.Sends.{with_notice}
use Rattle.flume_state.specs.layout.Pairing.{sends_in}
use Rattle.flume_state.proofs.SendStepLemmas.{none_first}
use Rattle.flume_state.proofs.FirstDueLemmas.{told_kept, told_due}
use Rattle.flume_state.proofs.LinkLemmas.{due_found, after_written, written_sends, first_sent, seat, live_written, link_kept}
use Rattle.flume_state.proofs.sends.Sends.take_first_due.Goals as goal

pub returns-in_err-place-clause-none_due : goal.returns-in_err-place-clause-none_due
returns-in_err-place-clause-none_due g c =
    rw c.from_residual.ensures (rw (sym c.self.view_is) (none_first _ (rw c.in_err-place.was at c.self.invariant)))

pub returns-in_err-ticket-clause-none_due : goal.returns-in_err-ticket-clause-none_due
returns-in_err-ticket-clause-none_due g c =
    absurd (due_found (λ e. e.label) _ _ c.in_ok-place.place c.self.invariant c.in_ok-place.was c.facts.ensures.apart
    c.in_err-ticket.ensures.ticket)

pub invariant_of-self-2 : goal.invariant_of-self-2
invariant_of-self-2 g c =
    let items = c.self.inside.chain in
    let f = first_sent items _ c.in_ok-ticket.ticket c.in_ok-place.place _ c.self.invariant c.in_ok-place.was
    c.facts.ensures.apart c.facts.ensures.single c.in_ok-ticket.ensures.ticket c.in_ok-placed.ensures.value in
    rw (c.next-self-inside.ensures.next, after_written items c.in_ok-place.place _, written_sends items c.in_ok-place.place _)
    (told_kept (sends_in items) _ _ _ _ f refl)

pub returns-clause-was_due : goal.returns-clause-was_due
returns-clause-was_due g c =
    rw (sym c.self.view_is) (told_due _ _ _ _ (first_sent _ _ c.in_ok-ticket.ticket c.in_ok-place.place _ c.self.invariant c.in_ok-place.was
    c.facts.ensures.apart c.facts.ensures.single c.in_ok-ticket.ensures.ticket c.in_ok-placed.ensures.value))

pub returns-clause-taken : goal.returns-clause-taken
returns-clause-taken g c =
    let f = first_sent _ _ c.in_ok-ticket.ticket c.in_ok-place.place _ c.self.invariant c.in_ok-place.was
    c.facts.ensures.apart c.facts.ensures.single c.in_ok-ticket.ensures.ticket c.in_ok-placed.ensures.value in
    rw (sym c.self.view_is) (live_written _ _ _ c.in_ok-placed.placed.now _ (with_notice no_longer_due) refl f.occupied)

pub returns-clause-links : goal.returns-clause-links
returns-clause-links g c =
    let s = seat _ _ _ c.facts.ensures.apart c.facts.ensures.single c.in_ok-placed.ensures.value in
    rw (sym c.self.view_is) (link_kept _ _ _ c.in_ok-placed.placed.now _ refl s.1.is)
