use Rattle.std.proofs.Common.{◌+◌, ◌++◌, ◌∷◌, [], length, length-append, sym, ap, ◌∙◌, arith, append-nil}
use Rattle.flume_chain.specs.ChainState.{found, table_of}
use Rattle.flume_chain.proofs.TableLemmas.{item}
use Rattle.flume_chain.proofs.StepLemmas.{last_below}
use Rattle.flume_chain.proofs.ChainListLemmas.{same_kept, same_chain, kept_items, walked}
use Rattle.flume_chain.proofs.PutLemmas.{free_stands, push_holds, put_room, not_full, on_err}
use Rattle.flume_chain.proofs.chain.Chain.push_back.Goals as goal

pub link_before-requires-clause-free : goal.link_before-requires-clause-free
link_before-requires-clause-free g c = free_stands c.self.inside.links c.self.invariant.items c.self.invariant.free_places
    c.self.invariant.holds

pub link_before-requires-clause-previous : goal.link_before-requires-clause-previous
link_before-requires-clause-previous g c =
    last_below (table_of c.self.inside.links) c.self.invariant.items c.self.invariant.free_places c.self.invariant.holds

pub invariant_of-self : goal.invariant_of-self
invariant_of-self g c =
    same_kept c.self.inside.links c.link_before.new.self c.self.inside.len c.in_err-place.ensures.unchanged c.self.invariant

pub returns-in_err-place-clause-succeeds : goal.returns-in_err-place-clause-succeeds
returns-in_err-place-clause-succeeds g c = λ some.
    let room = ap (λ x. x.room) c.self.view_is in
    not_full c.self.inside.links c.self.invariant.items c.self.invariant.free_places c.self.inside.len _ c.self.invariant.holds
    c.self.invariant.count c.in_err-place.ensures.full (omega arith)

pub returns-in_err-place-clause-unchanged : goal.returns-in_err-place-clause-unchanged
returns-in_err-place-clause-unchanged g c =
    on_err c.from_residual.result _
    (same_chain c.self.inside.links c.link_before.new.self c.self.inside.len c.args.self.now c.in_err-place.ensures.unchanged
    c.self.view_is)

pub invariant_of-self-2 : goal.invariant_of-self-2
invariant_of-self-2 g c =
    let k = c.self.invariant in
    let h = push_holds c.self.inside.links c.link_before.new.self k.items k.free_places c.in_ok-place.place c.args.element k.holds
    c.in_ok-place.ensures.put in
    record {
      items = k.items ++ item c.in_ok-place.place c.args.element ∷ [];
      free_places = h.free_places;
      holds = h.holds;
      count = let n = length-append k.items (item c.in_ok-place.place c.args.element ∷ []) in let m = k.count in omega arith;
    }

pub returns-clause-pushed : goal.returns-clause-pushed
returns-clause-pushed g c =
    let k = c.self.invariant in
    let h = push_holds c.self.inside.links c.link_before.new.self k.items k.free_places c.in_ok-place.place c.args.element k.holds
    c.in_ok-place.ensures.put in
    let n = length-append k.items (item c.in_ok-place.place c.args.element ∷ []) in
    let m = k.count in
    walked c.link_before.new.self (c.self.inside.len + 1) (k.items ++ item c.in_ok-place.place c.args.element ∷ []) h.free_places h.holds
    (omega arith)
    ∙ ap (λ l. l ++ item c.in_ok-place.place c.args.element ∷ [])
    (kept_items c.self.inside.links c.self.inside.len c.args.self.now k c.self.view_is)

pub returns-clause-fresh : goal.returns-clause-fresh
returns-clause-fresh g c =
    let k = c.self.invariant in
    let h = push_holds c.self.inside.links c.link_before.new.self k.items k.free_places c.in_ok-place.place c.args.element k.holds
    c.in_ok-place.ensures.put in
    ap (λ l. found l c.in_ok-place.place)
    (sym (append-nil k.items ∙ kept_items c.self.inside.links c.self.inside.len c.args.self.now k c.self.view_is))
    ∙ h.fresh

pub returns-clause-fits : goal.returns-clause-fits
returns-clause-fits g c =
    let k = c.self.invariant in
    let h = push_holds c.self.inside.links c.link_before.new.self k.items k.free_places c.in_ok-place.place c.args.element k.holds
    c.in_ok-place.ensures.put in
    let new = ap length (returns-clause-pushed g c) in
    let split = length-append c.args.self.now.items (item c.in_ok-place.place c.args.element ∷ []) in
    let same = length-append k.items (item c.in_ok-place.place c.args.element ∷ []) in
    let old = ap length (kept_items c.self.inside.links c.self.inside.len c.args.self.now k c.self.view_is) in
    let total = h.holds.total in
    let fits = h.holds.fits in
    omega arith

pub returns-clause-room : goal.returns-clause-room
returns-clause-room g c = λ some.
    let k = c.self.invariant in
    let room = ap (λ x. x.room) c.self.view_is in
    put_room c.self.inside.links c.link_before.new.self k.items k.free_places c.self.inside.len c.in_ok-place.place _ _ _ k.holds k.count
    c.in_ok-place.ensures.put (omega arith) ∙ room
