use Rattle.std.proofs.Common.{option_map, ◌≡◌, Some, sym, ap, ◌∙◌}
use Rattle.flume_state.specs.layout.Pairing.{Link, link_of, link_at}
use Rattle.flume_state.proofs.ByTicketLemmas.{found_somewhere}
use Rattle.flume_state.proofs.ByTicketLemmas.{under}
use Rattle.flume_state.proofs.LinkLemmas.{seat_at, link_nowhere, link_where}
use Rattle.flume_state.proofs.sends.Sends.blocked_at.Goals as goal

pub returns-in_err-place-clause-absent : goal.returns-in_err-place-clause-absent
returns-in_err-place-clause-absent g c = rw c.from_residual.ensures (rw (sym c.self.view_is) (λ k l is same.
    absurd (link_nowhere _ c.args.ticket k l c.facts.ensures.apart c.facts.ensures.single (sym c.find.ensures.place
    ∙ c.in_err-place.was) is same)))

pub returns-in_err-placed-clause-absent : goal.returns-in_err-placed-clause-absent
returns-in_err-placed-clause-absent g c =
    absurd (found_somewhere c.args.ticket c.in_ok-place.place _ c.facts.ensures.apart (sym c.find.ensures.place
    ∙ c.in_ok-place.was) c.in_err-placed.ensures.found)

pub returns-then-placed-clause-absent : goal.returns-then-placed-clause-absent
returns-then-placed-clause-absent g c = rw (sym c.self.view_is) (λ k l is same.
    let items = c.self.inside.chain in
    let at = sym c.find.ensures.place ∙ c.in_ok-place.was in
    let s = seat_at items c.in_ok-place.place c.args.ticket _ c.facts.ensures.apart c.facts.ensures.single at c.in_ok-placed.ensures.found
    in
    let here = link_where items c.args.ticket k _ l c.facts.ensures.apart c.facts.ensures.single at is same in
    let both : Some l ≡ Some (link_of (under c.args.ticket c.in_ok-placed.placed.now)) = sym is ∙ ap (link_at items) here
    ∙ ap (option_map link_of) s.is in
    let one : l ≡ link_of (under c.args.ticket c.in_ok-placed.placed.now) = cc in
    ap (λ (x : Link). x.accepted) one ∙ c.if-placed.true)

pub returns-clause-found : goal.returns-clause-found
returns-clause-found g c =
    let s = seat_at _ c.in_ok-place.place c.args.ticket _ c.facts.ensures.apart c.facts.ensures.single
    (sym c.find.ensures.place ∙ c.in_ok-place.was) c.in_ok-placed.ensures.found in
    rw (sym c.self.view_is) (ap (option_map link_of) s.is
    ∙ ap (λ b. Some (record { ticket = c.args.ticket; message = c.in_ok-placed.placed.now.message; accepted = b })) c.if-placed.false)

pub returns-clause-only : goal.returns-clause-only
returns-clause-only g c = rw (sym c.self.view_is) (λ k l is same.
    link_where _ c.args.ticket k _ l c.facts.ensures.apart c.facts.ensures.single (sym c.find.ensures.place ∙ c.in_ok-place.was) is same)
