use Rattle.std.proofs.Common.{ap, ◌∙◌}
use Rattle.flume_chain.specs.ChainState.{found}
use Rattle.flume_chain.proofs.ChainListLemmas.{none_taken, same_kept, same_chain, kept_items, beside_emptied, left_kept, left_items}
use Rattle.flume_chain.proofs.chain.Chain.remove.Goals as goal

pub invariant_of-self : goal.invariant_of-self
invariant_of-self g c =
    same_kept c.self.inside.links c.take.new.self c.self.inside.len
    (none_taken c.self.inside.links c.take.new.self c.args.place c.take.ensures.taken c.in_default.ensures.element) c.self.invariant

pub returns-in_default-clause-found : goal.returns-in_default-clause-found
returns-in_default-clause-found g c =
    c.in_default.ensures.element ∙ c.self.invariant.holds.elements c.args.place
    ∙ ap (λ l. found l c.args.place) (kept_items c.self.inside.links c.self.inside.len c.args.self.now c.self.invariant c.self.view_is)

pub returns-in_default-clause-unchanged : goal.returns-in_default-clause-unchanged
returns-in_default-clause-unchanged g c =
    same_chain c.self.inside.links c.take.new.self c.self.inside.len c.args.self.now
    (none_taken c.self.inside.links c.take.new.self c.args.place c.take.ensures.taken c.in_default.ensures.element) c.self.view_is

pub unlink_and_free-requires-clause-next : goal.unlink_and_free-requires-clause-next
unlink_and_free-requires-clause-next g c =
    (beside_emptied c.self.inside.links c.take.new.self c.self.inside.len c.args.place c.in-Some.element c.self.invariant
    c.in-Some.ensures.element c.take.ensures.taken).next

pub unlink_and_free-requires-clause-previous : goal.unlink_and_free-requires-clause-previous
unlink_and_free-requires-clause-previous g c =
    (beside_emptied c.self.inside.links c.take.new.self c.self.inside.len c.args.place c.in-Some.element c.self.invariant
    c.in-Some.ensures.element c.take.ensures.taken).previous

pub invariant_of-self-2 : goal.invariant_of-self-2
invariant_of-self-2 g c =
    left_kept c.self.inside.links c.take.new.self c.self.inside.len c.args.place c.in-Some.element c.self.invariant
    c.in-Some.ensures.element c.take.ensures.taken c.unlink_and_free.new.self c.unlink_and_free.ensures.linked

pub returns-clause-found : goal.returns-clause-found
returns-clause-found g c =
    c.in-Some.ensures.element ∙ c.self.invariant.holds.elements c.args.place
    ∙ ap (λ l. found l c.args.place) (kept_items c.self.inside.links c.self.inside.len c.args.self.now c.self.invariant c.self.view_is)

pub returns-clause-taken : goal.returns-clause-taken
returns-clause-taken g c =
    left_items c.self.inside.links c.take.new.self c.self.inside.len c.args.place c.in-Some.element c.self.invariant
    c.in-Some.ensures.element c.take.ensures.taken c.unlink_and_free.new.self c.unlink_and_free.ensures.linked c.args.self.now
    c.self.view_is
