use Rattle.std.proofs.Common.{sym, subst, refl, ◌∙◌, IsSome}
use Rattle.flume_chain.specs.ChainState.{HoldsItems, table_of}
use Rattle.flume_chain.proofs.ChainListLemmas.{standing, missing, found_split, neighbours}
use Rattle.flume_chain.proofs.EditLemmas.{found_kept}
use Rattle.flume_chain.proofs.FirstElementLemmas.{last_stands, moved_kept, moved_items}
use Rattle.flume_chain.proofs.ChainLemmas.{moved_back_missing}
use Rattle.flume_chain.proofs.chain.Chain.move_back.Goals as goal

pub returns-in_default-clause-found : goal.returns-in_default-clause-found
returns-in_default-clause-found g c =
    let none = missing _ _ c.in_default.ensures.value
    ∙ found_kept c.self.inside.links c.self.inside.len c.args.self.now c.self.invariant c.args.place c.self.view_is in
    (λ e. absurd cc, λ some. absurd (let no = subst IsSome (sym none) some in cc))

pub returns-in_default-clause-moved : goal.returns-in_default-clause-moved
returns-in_default-clause-moved g c =
    let none = missing _ _ c.in_default.ensures.value
    ∙ found_kept c.self.inside.links c.self.inside.len c.args.self.now c.self.invariant c.args.place c.self.view_is in
    sym (moved_back_missing c.args.self.now.items c.args.place (sym none))

pub unlink-requires-clause-next : goal.unlink-requires-clause-next
unlink-requires-clause-next g c =
    let k = c.self.invariant in
    let e = standing _ _ _ c.in-Some.ensures.value in
    let r = found_split c.self.inside.links k.items k.free_places c.args.place e.element k.holds e.is in
    (neighbours (table_of c.self.inside.links) r.before r.after c.args.place e.element k.free_places
    (subst (λ l. HoldsItems (table_of c.self.inside.links) l k.free_places) r.is k.holds)).next

pub unlink-requires-clause-previous : goal.unlink-requires-clause-previous
unlink-requires-clause-previous g c =
    let k = c.self.invariant in
    let e = standing _ _ _ c.in-Some.ensures.value in
    let r = found_split c.self.inside.links k.items k.free_places c.args.place e.element k.holds e.is in
    (neighbours (table_of c.self.inside.links) r.before r.after c.args.place e.element k.free_places
    (subst (λ l. HoldsItems (table_of c.self.inside.links) l k.free_places) r.is k.holds)).previous

pub link_last-requires-clause-last : goal.link_last-requires-clause-last
link_last-requires-clause-last g c =
    let e = standing _ _ _ c.in-Some.ensures.value in
    last_stands c.self.inside.links c.unlink.new.self c.self.inside.len c.args.place e.element c.self.invariant
    e.is c.unlink.ensures.unlinked

pub invariant_of-self : goal.invariant_of-self
invariant_of-self g c =
    let e = standing _ _ _ c.in-Some.ensures.value in
    moved_kept c.self.inside.links c.unlink.new.self c.self.inside.len c.args.place e.element c.self.invariant
    e.is c.unlink.ensures.unlinked c.link_last.new.self c.link_last.ensures.linked

pub returns-clause-found : goal.returns-clause-found
returns-clause-found g c =
    let e = standing _ _ _ c.in-Some.ensures.value in
    let some = e.is ∙ found_kept c.self.inside.links c.self.inside.len c.args.self.now c.self.invariant c.args.place c.self.view_is in
    (λ _. subst IsSome some refl, λ _. refl)

pub returns-clause-moved : goal.returns-clause-moved
returns-clause-moved g c =
    let e = standing _ _ _ c.in-Some.ensures.value in
    moved_items c.self.inside.links c.unlink.new.self c.self.inside.len c.args.place e.element c.self.invariant
    e.is c.unlink.ensures.unlinked c.args.self.now c.self.view_is c.link_last.new.self c.link_last.ensures.linked
