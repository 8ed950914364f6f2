use Rattle.std.proofs.Common.{◌≡◌, sym, ap, subst, ◌∙◌}
use Rattle.flume_chain.specs.ChainState.{without_place}
use Rattle.flume_state.specs.layout.SendLayout.{SendLayout}
use Rattle.flume_state.specs.layout.Pairing.{sends_in}
use Rattle.flume_state.proofs.SendStepLemmas.{spent_kept, bounded_same, bounded_other}
use Rattle.flume_state.proofs.LinkLemmas.{without_sends, after_sends, apart_sends, spent}
use Rattle.flume_state.proofs.sends.Sends.spend.Goals as goal
use Rattle.flume_state.proofs.sends.Sends.spend.Goals.{then-eq, else-eq}

pub invariant_of-self : goal.invariant_of-self
invariant_of-self g c =
    let items = c.self.inside.chain in
    let same : c.if-eq.self-inside.chain ≡ c.self.inside.chain = elim c.if-eq.branch [
      | then-eq w ↦ ap (λ i. i.chain) w.self-inside-is
      | else-eq w ↦ ap (λ i. i.chain) w.self-inside-is
    ] in
    let e = rw same at c.discard.ensures in
    let taken = ap sends_in e.removed ∙ without_sends items c.args.place in
    let kept = SendLayout (without_place (sends_in items) c.args.place) in
    let left = spent_kept (sends_in items) c.self.inside.due c.args.place (apart_sends items c.facts.ensures.apart) c.self.invariant in
    elim c.if-eq.branch [
      | then-eq w ↦
          rw (taken, w.self-inside-is, w.next-self-inside.ensures.next, sym (after_sends items c.args.place))
          (subst kept (bounded_same c.self.inside.due c.args.place _ (sym c.eq.ensures ∙ w.if-eq.true)) left)
      | else-eq w ↦
          rw (taken, w.self-inside-is)
          (subst kept (bounded_other c.self.inside.due c.args.place _ (sym c.eq.ensures ∙ w.if-eq.false)) left)
    ]

pub returns : goal.returns
returns g c =
    let items = c.self.inside.chain in
    let same : c.if-eq.self-inside.chain ≡ c.self.inside.chain = elim c.if-eq.branch [
      | then-eq w ↦ ap (λ i. i.chain) w.self-inside-is
      | else-eq w ↦ ap (λ i. i.chain) w.self-inside-is
    ] in
    let e = rw same at c.discard.ensures in
    let s = spent items _ c.args.place c.facts.ensures.apart c.facts.ensures.single e.removed in
    rw (sym c.self.view_is) (record { live = s.live; link = s.link; none = s.none })
