use Rattle.std.proofs.Common.{sym, ◌∙◌}
use Rattle.flume_chain.proofs.ChainLemmas.{without_missing}
use Rattle.flume_chain.proofs.EditLemmas.{found_kept}
use Rattle.flume_chain.proofs.ChainListLemmas.{standing, missing, beside_emptied, left_kept, left_items, left_room}
use Rattle.flume_chain.proofs.chain.Chain.discard.Goals as goal

pub returns-in_default-clause-removed : goal.returns-in_default-clause-removed
returns-in_default-clause-removed g c =
    let none = missing _ _ c.in_default.ensures.value
    ∙ found_kept c.self.inside.links c.self.inside.len c.args.self.now c.self.invariant c.args.place c.self.view_is in
    sym (without_missing c.args.self.now.items c.args.place (sym none))

pub unlink_and_free-requires-clause-next : goal.unlink_and_free-requires-clause-next
unlink_and_free-requires-clause-next g c =
    let e = standing _ _ _ c.in-Some.ensures.value in
    (beside_emptied c.self.inside.links c.discard.new.self c.self.inside.len c.args.place e.element c.self.invariant
    e.is c.discard.ensures.discarded).next

pub unlink_and_free-requires-clause-previous : goal.unlink_and_free-requires-clause-previous
unlink_and_free-requires-clause-previous g c =
    let e = standing _ _ _ c.in-Some.ensures.value in
    (beside_emptied c.self.inside.links c.discard.new.self c.self.inside.len c.args.place e.element c.self.invariant
    e.is c.discard.ensures.discarded).previous

pub invariant_of-self : goal.invariant_of-self
invariant_of-self g c =
    let e = standing _ _ _ c.in-Some.ensures.value in
    left_kept c.self.inside.links c.discard.new.self c.self.inside.len c.args.place e.element c.self.invariant
    e.is c.discard.ensures.discarded c.unlink_and_free.new.self c.unlink_and_free.ensures.linked

pub returns-clause-removed : goal.returns-clause-removed
returns-clause-removed g c =
    let e = standing _ _ _ c.in-Some.ensures.value in
    left_items c.self.inside.links c.discard.new.self c.self.inside.len c.args.place e.element c.self.invariant
    e.is c.discard.ensures.discarded c.unlink_and_free.new.self c.unlink_and_free.ensures.linked c.args.self.now c.self.view_is

pub returns-clause-room : goal.returns-clause-room
returns-clause-room g c =
    let e = standing _ _ _ c.in-Some.ensures.value in
    left_room c.self.inside.links c.discard.new.self c.self.inside.len c.args.place e.element c.self.invariant
    e.is c.discard.ensures.discarded c.unlink_and_free.new.self c.unlink_and_free.ensures.linked c.args.self.now c.self.view_is
