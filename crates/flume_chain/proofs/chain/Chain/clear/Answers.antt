use Rattle.flume_chain.proofs.ChainListLemmas.{new_kept}
use Rattle.flume_chain.proofs.EditLemmas.{cleared_room}
use Rattle.flume_chain.proofs.chain.Chain.clear.Goals as goal

pub invariant_of-self : goal.invariant_of-self
invariant_of-self g c = new_kept c.clear.new.self c.clear.ensures.size c.clear.ensures.first c.clear.ensures.last c.clear.ensures.free

pub returns-then-self-gt0-clause-room : goal.returns-then-self-gt0-clause-room
returns-then-self-gt0-clause-room g c =
    cleared_room c.self.inside.links c.clear.new.self c.self.inside.len c.args.self.now c.self.invariant c.clear.ensures.capacity
    c.self.view_is
