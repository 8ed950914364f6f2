use Rattle.std.proofs.Common.{◌+◌, ◌++◌, ◌∷◌, length, length-append, sym, ap, subst, ◌∙◌, arith}
use Rattle.std.proofs.lemmas.Result.{IfOk-weaker}
use Rattle.flume_chain.specs.ChainState.{HoldsItems, table_of, found, put_before, put_before_or_last}
use Rattle.flume_chain.proofs.TableLemmas.{item, put_before_none}
use Rattle.flume_chain.proofs.ChainListLemmas.{standing, missing, same_kept, same_chain, kept_items}
use Rattle.flume_chain.proofs.ChainListLemmas.{found_split, neighbours, place_below, put_items, walked}
use Rattle.flume_chain.proofs.PutLemmas.{insert_holds, free_stands, put_room, not_full, on_err}
use Rattle.flume_chain.proofs.ChainLemmas.{length-put_before}
use Rattle.flume_chain.proofs.chain.Chain.insert_before.Goals as goal

-- if there is none at the place the element is behind all others
pub returns-in_default-clause-inserted : goal.returns-in_default-clause-inserted
returns-in_default-clause-inserted g c =
    let k = c.self.invariant in
    let items = kept_items c.self.inside.links c.self.inside.len c.args.self.now k c.self.view_is in
    let none = ap (λ l. found l c.in-Some.next) (sym items) ∙ sym (missing _ _ c.in_default.ensures.value
    ∙ k.holds.elements c.in-Some.next) in
    rw c.in-Some.is
    (IfOk-weaker c.push_back-in_default.result _ _
    (λ place pushed. pushed ∙ sym (put_before_none c.args.self.now.items c.in-Some.next (item place c.args.element) none))
    c.push_back-in_default.ensures.pushed)

pub link_before-requires-clause-free : goal.link_before-requires-clause-free
link_before-requires-clause-free g c = free_stands c.self.inside.links c.self.invariant.items c.self.invariant.free_places
    c.self.invariant.holds

pub link_before-requires-clause-next : goal.link_before-requires-clause-next
link_before-requires-clause-next g c =
    let k = c.self.invariant in
    let e = standing _ _ _ c.in-Some-get.ensures.value in
    let r = found_split c.self.inside.links k.items k.free_places c.in-Some.next e.element k.holds e.is in
    λ occupied. place_below c.self.inside.links k.items k.free_places c.in-Some.next e.element r k.holds

pub link_before-requires-clause-previous : goal.link_before-requires-clause-previous
link_before-requires-clause-previous g c =
    let k = c.self.invariant in
    let e = standing _ _ _ c.in-Some-get.ensures.value in
    let r = found_split c.self.inside.links k.items k.free_places c.in-Some.next e.element k.holds e.is in
    (neighbours (table_of c.self.inside.links) r.before r.after c.in-Some.next e.element k.free_places
    (subst (λ l. HoldsItems (table_of c.self.inside.links) l k.free_places) r.is k.holds)).previous

pub invariant_of-self : goal.invariant_of-self
invariant_of-self g c =
    same_kept c.self.inside.links c.link_before.new.self c.self.inside.len c.in_err-place.ensures.unchanged c.self.invariant

pub returns-in_err-place-clause-succeeds : goal.returns-in_err-place-clause-succeeds
returns-in_err-place-clause-succeeds g c = λ some.
    let room = ap (λ x. x.room) c.self.view_is in
    not_full c.self.inside.links c.self.invariant.items c.self.invariant.free_places c.self.inside.len _ c.self.invariant.holds
    c.self.invariant.count c.in_err-place.ensures.full (omega arith)

pub returns-in_err-place-clause-unchanged : goal.returns-in_err-place-clause-unchanged
returns-in_err-place-clause-unchanged g c =
    on_err c.from_residual.result _
    (same_chain c.self.inside.links c.link_before.new.self c.self.inside.len c.args.self.now c.in_err-place.ensures.unchanged
    c.self.view_is)

pub invariant_of-self-2 : goal.invariant_of-self-2
invariant_of-self-2 g c =
    let k = c.self.invariant in
    let e = standing _ _ _ c.in-Some-get.ensures.value in
    let r = found_split c.self.inside.links k.items k.free_places c.in-Some.next e.element k.holds e.is in
    let h = insert_holds c.self.inside.links c.link_before.new.self k.items k.free_places c.in-Some.next e.element c.in_ok-place.place
    c.args.element r k.holds c.in_ok-place.ensures.put in
    record {
      items = r.before ++ item c.in_ok-place.place c.args.element ∷ item c.in-Some.next e.element ∷ r.after;
      free_places = h.free_places;
      holds = h.holds;
      count =
          let a = length-append r.before (item c.in_ok-place.place c.args.element ∷ item c.in-Some.next e.element ∷ r.after) in
          let b = length-append r.before (item c.in-Some.next e.element ∷ r.after) in
          let n = ap length r.is in
          let m = k.count in
          omega arith;
    }

-- it is ahead of the element at the place
pub returns-clause-inserted : goal.returns-clause-inserted
returns-clause-inserted g c =
    let k = c.self.invariant in
    let e = standing _ _ _ c.in-Some-get.ensures.value in
    let r = found_split c.self.inside.links k.items k.free_places c.in-Some.next e.element k.holds e.is in
    let h = insert_holds c.self.inside.links c.link_before.new.self k.items k.free_places c.in-Some.next e.element c.in_ok-place.place
    c.args.element r k.holds c.in_ok-place.ensures.put in
    let a = length-append r.before (item c.in_ok-place.place c.args.element ∷ item c.in-Some.next e.element ∷ r.after) in
    let b = length-append r.before (item c.in-Some.next e.element ∷ r.after) in
    let n = ap length r.is in
    let m = k.count in
    rw c.in-Some.is
    (walked c.link_before.new.self (c.self.inside.len + 1) _ h.free_places h.holds (omega arith)
    ∙ sym (put_items c.self.inside.links k.items k.free_places c.in-Some.next e.element (item c.in_ok-place.place c.args.element) r k.holds)
    ∙ ap (λ l. put_before l c.in-Some.next (item c.in_ok-place.place c.args.element))
    (kept_items c.self.inside.links c.self.inside.len c.args.self.now k c.self.view_is))

pub returns-clause-fresh : goal.returns-clause-fresh
returns-clause-fresh g c =
    let k = c.self.invariant in
    let e = standing _ _ _ c.in-Some-get.ensures.value in
    let r = found_split c.self.inside.links k.items k.free_places c.in-Some.next e.element k.holds e.is in
    let h = insert_holds c.self.inside.links c.link_before.new.self k.items k.free_places c.in-Some.next e.element c.in_ok-place.place
    c.args.element r k.holds c.in_ok-place.ensures.put in
    ap (λ l. found l c.in_ok-place.place)
    (sym (kept_items c.self.inside.links c.self.inside.len c.args.self.now k c.self.view_is) ∙ r.is)
    ∙ h.fresh

pub returns-clause-fits : goal.returns-clause-fits
returns-clause-fits g c =
    let k = c.self.invariant in
    let e = standing _ _ _ c.in-Some-get.ensures.value in
    let r = found_split c.self.inside.links k.items k.free_places c.in-Some.next e.element k.holds e.is in
    let h = insert_holds c.self.inside.links c.link_before.new.self k.items k.free_places c.in-Some.next e.element c.in_ok-place.place
    c.args.element r k.holds c.in_ok-place.ensures.put in
    let new = ap length (returns-clause-inserted g c) in
    let more = ap (λ o. length (put_before_or_last c.args.self.now.items o (item c.in_ok-place.place c.args.element))) c.in-Some.is
    ∙ length-put_before c.args.self.now.items c.in-Some.next (item c.in_ok-place.place c.args.element) in
    let a = length-append r.before (item c.in_ok-place.place c.args.element ∷ item c.in-Some.next e.element ∷ r.after) in
    let b = length-append r.before (item c.in-Some.next e.element ∷ r.after) in
    let n = ap length r.is in
    let old = ap length (kept_items c.self.inside.links c.self.inside.len c.args.self.now k c.self.view_is) in
    let total = h.holds.total in
    let fits = h.holds.fits in
    omega arith

pub returns-clause-room : goal.returns-clause-room
returns-clause-room g c = λ some.
    let k = c.self.invariant in
    let room = ap (λ x. x.room) c.self.view_is in
    put_room c.self.inside.links c.link_before.new.self k.items k.free_places c.self.inside.len c.in_ok-place.place _ _ _ k.holds k.count
    c.in_ok-place.ensures.put (omega arith) ∙ room
