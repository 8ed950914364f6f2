use Rattle.std.proofs.Common.{Some, ap, sym, ◌∙◌}
use Rattle.flume_chain.specs.ChainState.{table_of, place_after}
use Rattle.flume_chain.proofs.TableLemmas.{after_none}
use Rattle.flume_chain.proofs.ChainListLemmas.{standing, missing, kept_items, after_is}
use Rattle.flume_chain.proofs.chain.Chain.next.Goals as goal

pub returns-in_default : goal.returns-in_default
returns-in_default g c = record {
  next = sym (after_none c.self.invariant.items c.args.place (sym (missing _ _ c.in_default.ensures.value
      ∙ c.self.invariant.holds.elements c.args.place)))
      ∙ ap (λ l. place_after l c.args.place)
      (kept_items c.self.inside.links c.self.inside.len c.args.self.now c.self.invariant c.self.view_is);
}

pub returns-then-next : goal.returns-then-next
returns-then-next g c =
    let k = c.self.invariant in
    let e = standing _ _ _ c.in-Some.ensures.value in
    let a = after_is (table_of c.self.inside.links) k.items k.free_places c.args.place e.element k.holds e.is in
    record {
      next = a.none (sym c.next-next.ensures.next ∙ c.if-next.true)
          ∙ ap (λ l. place_after l c.args.place)
          (kept_items c.self.inside.links c.self.inside.len c.args.self.now c.self.invariant c.self.view_is);
    }

pub returns : goal.returns
returns g c =
    let k = c.self.invariant in
    let e = standing _ _ _ c.in-Some.ensures.value in
    let a = after_is (table_of c.self.inside.links) k.items k.free_places c.args.place e.element k.holds e.is in
    record {
      next = ap Some c.next-next.ensures.next ∙ a.some (λ e. c.if-next.false (c.next-next.ensures.next ∙ e))
          ∙ ap (λ l. place_after l c.args.place)
          (kept_items c.self.inside.links c.self.inside.len c.args.self.now c.self.invariant c.self.view_is);
    }
