use Rattle.std.proofs.Common.{refl, sym, ap, ◌∙◌}
use Rattle.flume_state.specs.layout.Pairing.{sends_in}
use Rattle.flume_state.specs.layout.SendLayout.{by_ticket}
use Rattle.flume_state.specs.Sends.{newly_blocked}
use Rattle.flume_state.proofs.SendLineLemmas.{put_lined}
use Rattle.flume_state.proofs.SendStepLemmas.{get_none, put_view}
use Rattle.flume_state.proofs.LinkLemmas.{put_sends, place_sends, apart_sends, link_put}
use Rattle.flume_state.proofs.sends.Sends.block.Goals.{in-Ok, in-Err}
use Rattle.flume_state.proofs.sends.Sends.block.Goals as goal

pub invariant_of-self : goal.invariant_of-self
invariant_of-self g c =
    let items = c.self.inside.chain in
    elim c.match-insert.branch [
      | in-Ok w ↦ rw w.in-Ok.ensures.inserted (rw (put_sends items c.self.inside.due _)
          (put_lined (sends_in items) _ _ c.args.ticket (newly_blocked c.args.signal) refl c.self.invariant
          (apart_sends items c.facts.ensures.apart)))
      | in-Err w ↦ rw w.in-Err.ensures.unchanged c.self.invariant
    ]

pub returns-clause-live : goal.returns-clause-live
returns-clause-live g c =
    let items = c.self.inside.chain in
    elim c.match-insert.branch [
      | in-Ok w ↦ rw w.result-is (rw (sym c.self.view_is)
          (ap by_ticket (ap sends_in w.in-Ok.ensures.inserted ∙ put_sends items c.self.inside.due _)
          ∙ put_view (sends_in items) _ c.args.ticket _ (newly_blocked c.args.signal) c.self.invariant
          (apart_sends items c.facts.ensures.apart)
          (place_sends c.args.ticket items ∙ w.in-Ok.ensures.new_ticket)))
      | in-Err w ↦ rw w.result-is tt
    ]

pub returns-clause-link : goal.returns-clause-link
returns-clause-link g c = elim c.match-insert.branch [
  | in-Ok w ↦ rw w.result-is (rw (sym c.self.view_is) (rw w.in-Ok.ensures.inserted
      (link_put c.self.inside.chain c.self.inside.due _ c.args.ticket _ w.in-Ok.ensures.fresh)))
  | in-Err w ↦ rw w.result-is tt
]

pub returns-clause-absent : goal.returns-clause-absent
returns-clause-absent g c = elim c.match-insert.branch [
  | in-Ok w ↦ rw w.result-is (rw (sym c.self.view_is)
      (get_none (sends_in c.self.inside.chain) c.args.ticket (place_sends c.args.ticket c.self.inside.chain ∙ w.in-Ok.ensures.new_ticket)))
  | in-Err w ↦ rw w.result-is tt
]
