-- The state under the lock is the one that its run leaves.
use Rattle.std.proofs.Common.{◌∙◌, sym, ap, length}
use Rattle.std.proofs.lemmas.List.{length-map}
use Rattle.flume_model.specs.Entries.{waiting_count}
use Rattle.flume_core.proofs.BareEntryLemmas.{bare_waiting}
use Rattle.flume.proofs.shared.Shared.describe.Goals as goal

pub returns : goal.returns
returns g c =
    let reachable = c.facts.ensures.reachable in
    let represents = reachable.2 in
    let says = c.describe.ensures.describes in
    record {
      described = record {
        opening = reachable.0;
        log = reachable.1;
        run = represents.run;
        len = says.len ∙ ap length represents.queue_is;
        capacity = says.capacity ∙ represents.capacity_is;
        blocked_senders = says.blocked_senders ∙ sym (length-map _ _) ∙ ap length represents.blocked_are;
        waiting_receivers = says.waiting_receivers ∙ sym (bare_waiting _)
            ∙ ap waiting_count represents.entries_are;
        sender_count = says.sender_count ∙ represents.senders_are;
        receiver_count = says.receiver_count ∙ represents.receivers_are;
      };
    }
