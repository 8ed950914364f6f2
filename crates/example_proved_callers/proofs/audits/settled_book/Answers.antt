-- The answer says that the history is settled; by what it and the receipts weigh, each of them one, it
-- is as long as they are many.
use Rattle.std.proofs.Common.{sym, ◌∙◌}
use Rattle.example_proved_callers.proofs.CountLemmas.{ones, all_ones}
use Rattle.example_proved_callers.proofs.audits.settled_book.Goals as goal

pub returns-in-Settled : goal.returns-in-Settled
returns-in-Settled g c =
    let all = c.close-closed.ensures.settled.0 c.in-Settled.is in
    record {
      is_settled = all.1;
      same_length = sym (ones c.close-closed.result.1.history) ∙ c.close-closed.ensures.weights all.0
          ∙ all_ones c.args.seats.items;
    }
