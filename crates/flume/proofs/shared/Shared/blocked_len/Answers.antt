-- The state under the lock has as many blocked sends as its run leaves.
use Rattle.std.proofs.Common.{◌∙◌, sym, ap, length}
use Rattle.std.proofs.lemmas.List.{length-map}
use Rattle.flume.proofs.shared.Shared.blocked_len.Goals as goal

pub returns : goal.returns
returns g c =
    let reachable = c.facts.ensures.reachable in
    let represents = reachable.2 in
    record {
      counted = record {
        opening = reachable.0;
        log = reachable.1;
        run = represents.run;
        counted = c.blocked_len.ensures.blocked ∙ sym (length-map _ _) ∙ ap length represents.blocked_are;
      };
    }
