use Rattle.std.proofs.Common.{◌-◌, [], ◌∷◌, IsSome, length, refl, sym, ap, subst, ◌∙◌, arith}
use Rattle.flume_chain.specs.ChainState.{HoldsItems, table_of, first_element, behind_first}
use Rattle.flume_chain.proofs.ChainListLemmas.{same_kept, same_chain, kept_items, neighbours, place_below, walked}
use Rattle.flume_chain.proofs.FirstElementLemmas.{begun, begun_split, none_begun, first_taken}
use Rattle.flume_chain.proofs.chain.Chain.pop_front.Goals as goal

pub take_first-requires-clause-first : goal.take_first-requires-clause-first
take_first-requires-clause-first g c = λ ne.
    let k = c.self.invariant in
    let b = begun c.self.inside.links k.items k.free_places k.holds ne in
    place_below c.self.inside.links k.items k.free_places c.self.inside.links.first b.element
    (begun_split c.self.inside.links k.items b) k.holds

pub take_first-requires-clause-next : goal.take_first-requires-clause-next
take_first-requires-clause-next g c = λ ne.
    let k = c.self.invariant in
    let b = begun c.self.inside.links k.items k.free_places k.holds ne in
    (neighbours (table_of c.self.inside.links) [] b.rest c.self.inside.links.first b.element k.free_places
    (subst (λ l. HoldsItems (table_of c.self.inside.links) l k.free_places) b.is k.holds)).next

pub take_first-requires-clause-element : goal.take_first-requires-clause-element
take_first-requires-clause-element g c = λ ne.
    let k = c.self.invariant in
    let b = begun c.self.inside.links k.items k.free_places k.holds ne in
    subst IsSome (sym b.occupied) refl

pub invariant_of-self : goal.invariant_of-self
invariant_of-self g c =
    same_kept c.self.inside.links c.take_first.new.self c.self.inside.len c.in_err-element.ensures.unchanged c.self.invariant

pub returns-in_err-element-clause-first : goal.returns-in_err-element-clause-first
returns-in_err-element-clause-first g c =
    let k = c.self.invariant in
    c.from_residual.ensures
    ∙ sym (ap first_element (sym (kept_items c.self.inside.links c.self.inside.len c.args.self.now k c.self.view_is)
    ∙ none_begun c.self.inside.links k.items k.free_places k.holds c.in_err-element.ensures.none))

pub returns-in_err-element-clause-taken : goal.returns-in_err-element-clause-taken
returns-in_err-element-clause-taken g c =
    let k = c.self.invariant in
    let none = sym (kept_items c.self.inside.links c.self.inside.len c.args.self.now k c.self.view_is)
    ∙ none_begun c.self.inside.links k.items k.free_places k.holds c.in_err-element.ensures.none in
    ap (λ x. x.items)
    (same_chain c.self.inside.links c.take_first.new.self c.self.inside.len c.args.self.now c.in_err-element.ensures.unchanged
    c.self.view_is)
    ∙ none ∙ sym (ap behind_first none)

pub returns-in_err-element-clause-unchanged : goal.returns-in_err-element-clause-unchanged
returns-in_err-element-clause-unchanged g c =
    rw c.from_residual.ensures
    (same_chain c.self.inside.links c.take_first.new.self c.self.inside.len c.args.self.now c.in_err-element.ensures.unchanged
    c.self.view_is)

pub invariant_of-self-2 : goal.invariant_of-self-2
invariant_of-self-2 g c =
    let k = c.self.invariant in
    let b = begun c.self.inside.links k.items k.free_places k.holds c.in_ok-element.ensures.some in
    record {
      items = b.rest;
      free_places = c.self.inside.links.first ∷ k.free_places;
      holds = first_taken c.self.inside.links c.take_first.new.self k.items k.free_places b k.holds c.in_ok-element.ensures.taken;
      count = let n = ap length b.is in let m = k.count in omega arith;
    }

pub returns-clause-first : goal.returns-clause-first
returns-clause-first g c =
    let k = c.self.invariant in
    let b = begun c.self.inside.links k.items k.free_places k.holds c.in_ok-element.ensures.some in
    sym c.in_ok-element.ensures.element ∙ b.occupied
    ∙ sym (ap first_element (sym (kept_items c.self.inside.links c.self.inside.len c.args.self.now k c.self.view_is) ∙ b.is))

pub returns-clause-taken : goal.returns-clause-taken
returns-clause-taken g c =
    let k = c.self.invariant in
    let b = begun c.self.inside.links k.items k.free_places k.holds c.in_ok-element.ensures.some in
    let n = ap length b.is in
    let m = k.count in
    walked c.take_first.new.self (c.self.inside.len - 1) b.rest (c.self.inside.links.first ∷ k.free_places)
    (first_taken c.self.inside.links c.take_first.new.self k.items k.free_places b k.holds c.in_ok-element.ensures.taken) (omega arith)
    ∙ sym (ap behind_first (sym (kept_items c.self.inside.links c.self.inside.len c.args.self.now k c.self.view_is) ∙ b.is))
