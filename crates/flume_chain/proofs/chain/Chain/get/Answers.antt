use Rattle.std.proofs.Common.{◌∙◌}
use Rattle.flume_chain.proofs.EditLemmas.{part_kept}
use Rattle.flume_chain.proofs.chain.Chain.get.Goals as goal

pub returns : goal.returns
returns g c = record {
  found = c.get.ensures.value
      ∙ part_kept _ c.self.inside.links c.self.inside.len c.args.self.now c.self.invariant c.args.place c.self.view_is;
}
