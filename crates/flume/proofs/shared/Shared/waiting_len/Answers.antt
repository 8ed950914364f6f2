-- The state under the lock has as many waiting receivers as its run leaves.
use Rattle.std.proofs.Common.{◌∙◌, sym, ap}
use Rattle.flume_model.specs.Entries.{waiting_count}
use Rattle.flume_core.proofs.BareEntryLemmas.{bare_waiting}
use Rattle.flume.proofs.shared.Shared.waiting_len.Goals as goal

pub returns : goal.returns
returns g c =
    let reachable = c.facts.ensures.reachable in
    let represents = reachable.2 in
    record {
      counted = record {
        opening = reachable.0;
        log = reachable.1;
        run = represents.run;
        counted = c.waiting_len.ensures.waiting ∙ sym (bare_waiting _) ∙ ap waiting_count represents.entries_are;
      };
    }
