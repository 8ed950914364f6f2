use Rattle.flume_chain.proofs.ChainListLemmas.{new_kept}
use Rattle.flume_chain.proofs.chain.Chain.new.Goals as goal

pub invariant_of-result : goal.invariant_of-result
invariant_of-result g c = new_kept c.new.result c.new.ensures.size c.new.ensures.first c.new.ensures.last c.new.ensures.free
