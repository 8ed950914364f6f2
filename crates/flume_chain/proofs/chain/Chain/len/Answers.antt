use Rattle.std.proofs.Common.{length, ap, ◌∙◌}
use Rattle.flume_chain.proofs.ChainListLemmas.{kept_items}
use Rattle.flume_chain.proofs.chain.Chain.len.Goals as goal

pub returns : goal.returns
returns g c = record {
  len = c.self.invariant.count ∙ ap length
      (kept_items c.self.inside.links c.self.inside.len c.args.self.now c.self.invariant c.self.view_is);
}
