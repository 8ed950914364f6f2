use Rattle.std.proofs.Common.{refl, sym, ap, ◌∙◌}
use Rattle.flume_state.specs.layout.SendLayout.{by_ticket, due_accepting}
use Rattle.flume_state.specs.layout.Pairing.{sends_in, accepting}
use Rattle.flume_state.proofs.SendStepLemmas.{written_kept, moved_kept, moved_view}
use Rattle.flume_state.proofs.LinkLemmas.{seat, moved, written_sends, live_written, link_written}
use Rattle.flume_state.proofs.sends.Sends.make_due.Goals as goal

pub invariant_of-self-then-not-was_due : goal.invariant_of-self-then-not-was_due
invariant_of-self-then-not-was_due g c =
    let items = c.self.inside.chain in
    let s = seat items c.args.place _ c.facts.ensures.apart c.facts.ensures.single c.in-Some.ensures.value in
    let m = moved items _ c.args.place s.0 _ _ _ c.facts.ensures.apart s.1 c.move_back.ensures.found c.move_back.ensures.moved in
    rw (c.or-self-inside.ensures, m.sends)
    (moved_kept (sends_in items) _ _ _ _ (due_accepting c.args.accepts c.in-Some.placed.now.send) c.if-not-was_due.true refl s.1.occupied
    c.self.invariant)

pub returns-then-not-was_due : goal.returns-then-not-was_due
returns-then-not-was_due g c =
    let items = c.self.inside.chain in
    let s = seat items c.args.place _ c.facts.ensures.apart c.facts.ensures.single c.in-Some.ensures.value in
    let m = moved items _ c.args.place s.0 _ _ _ c.facts.ensures.apart s.1 c.move_back.ensures.found c.move_back.ensures.moved in
    rw (sym c.self.view_is) (record {
      live = rw s.1.is (ap by_ticket m.sends ∙ moved_view (sends_in items) _ _ _ (due_accepting c.args.accepts) s.1.occupied);
      link = λ k. m.links k ∙ link_written items _ _ (accepting c.args.accepts) _ _ refl s.1.is k;
    })

pub invariant_of-self-else-not-was_due : goal.invariant_of-self-else-not-was_due
invariant_of-self-else-not-was_due g c =
    let items = c.self.inside.chain in
    let s = seat items c.args.place _ c.facts.ensures.apart c.facts.ensures.single c.in-Some.ensures.value in
    rw (written_sends items c.args.place _)
    (written_kept (sends_in items) _ _ _ _ _ (sym c.if-not-was_due.false) s.1.occupied c.self.invariant)

pub returns-else-not-was_due : goal.returns-else-not-was_due
returns-else-not-was_due g c =
    let items = c.self.inside.chain in
    let s = seat items c.args.place _ c.facts.ensures.apart c.facts.ensures.single c.in-Some.ensures.value in
    rw (sym c.self.view_is) (record {
      live = rw s.1.is (live_written items _ _ c.in-Some.placed.now _ (due_accepting c.args.accepts) refl s.1.occupied);
      link = link_written items _ _ (accepting c.args.accepts) _ _ refl s.1.is;
    })
