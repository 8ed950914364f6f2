use Rattle.std.proofs.Common.{ap, ltb, ◌∙◌}
use Rattle.flume_model.specs.Entries.{some_wait}
use Rattle.flume_state.specs.layout.EntryLayout.{entries_in}
use Rattle.flume_state.proofs.EntryListLemmas.{some_wait_counted}
use Rattle.flume_state.proofs.entries.Entries.some_wait.Goals as goal

pub returns : goal.returns
returns g c = record {
  some = ap (ltb 0) c.self.invariant.count ∙ some_wait_counted (entries_in c.self.inside.chain) ∙ ap some_wait c.self.view_is;
}
