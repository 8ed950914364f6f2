use Rattle.std.proofs.Common.{Some, refl, sym, ◌∙◌}
use Rattle.flume_state.specs.Notices.{with_signal}
use Rattle.flume_state.specs.Sends.{with_notice}
use Rattle.flume_state.specs.layout.Pairing.{sends_in}
use Rattle.flume_state.proofs.ByTicketLemmas.{found_somewhere}
use Rattle.flume_state.proofs.SendStepLemmas.{none_changed, written_kept}
use Rattle.flume_state.proofs.LinkLemmas.{seat_at, place_sends, written_sends, live_written, link_kept}
use Rattle.flume_state.proofs.sends.Sends.set_signal.Goals as goal

pub returns-in_default-clause-live : goal.returns-in_default-clause-live
returns-in_default-clause-live g c =
    let items = c.self.inside.chain in
    rw (sym c.self.view_is) (none_changed (sends_in items) _ _ (place_sends c.args.ticket items ∙ sym c.find.ensures.place
    ∙ c.in_default.is))

pub returns-in_default-get_mut-clause-live : goal.returns-in_default-get_mut-clause-live
returns-in_default-get_mut-clause-live g c =
    absurd (found_somewhere c.args.ticket c.in-Some.place _ c.facts.ensures.apart (sym c.find.ensures.place
    ∙ c.in-Some.is) c.in_default-get_mut.ensures.value)

pub invariant_of-self-2 : goal.invariant_of-self-2
invariant_of-self-2 g c =
    let items = c.self.inside.chain in
    let s = seat_at items _ _ _ c.facts.ensures.apart c.facts.ensures.single (sym c.find.ensures.place
    ∙ c.in-Some.is) c.in-Some-get_mut.ensures.value in
    rw (written_sends items c.in-Some.place _) (written_kept (sends_in items) _ _ _ _ _ refl s.occupied c.self.invariant)

pub returns-clause-live : goal.returns-clause-live
returns-clause-live g c =
    let s = seat_at _ _ _ _ c.facts.ensures.apart c.facts.ensures.single (sym c.find.ensures.place
    ∙ c.in-Some.is) c.in-Some-get_mut.ensures.value in
    rw (sym c.self.view_is)
    (live_written c.self.inside.chain _ _ c.in-Some-get_mut.placed.now _ (with_notice (with_signal (Some c.args.signal))) refl s.occupied)

pub returns-clause-links : goal.returns-clause-links
returns-clause-links g c =
    let s = seat_at _ _ _ _ c.facts.ensures.apart c.facts.ensures.single (sym c.find.ensures.place
    ∙ c.in-Some.is) c.in-Some-get_mut.ensures.value in
    rw (sym c.self.view_is) (link_kept _ _ _ c.in-Some-get_mut.placed.now _ refl s.is)
