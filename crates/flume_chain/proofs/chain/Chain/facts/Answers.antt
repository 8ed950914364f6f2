use Rattle.flume_chain.proofs.EditLemmas.{apart_kept}
use Rattle.flume_chain.proofs.chain.Chain.facts.Goals as goal

pub returns : goal.returns
returns g c = record {
  apart = apart_kept c.self.inside.links c.self.inside.len c.args.self.now c.self.invariant c.self.view_is;
}
