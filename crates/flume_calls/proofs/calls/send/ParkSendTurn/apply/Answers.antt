-- An offer that parks has the next ticket.
use Rattle.std.proofs.Common.{◌≡◌, sym, ◌∙◌, rules}
use Rattle.flume_calls.proofs.calls.send.ParkSendTurn.apply.Goals as goal

pub returns-in-Pending-clause-does : goal.returns-in-Pending-clause-does
returns-in-Pending-clause-does g c = (
  search rules,
  record {
    closed = search rules;
    sent = search rules;
    waits = search rules;
    refused = search rules;
    parked = search rules;
    ticket = λ reachable ticket e.
        let run = (c.in-Pending.ensures.step reachable.0 reachable.1 reachable.2).run.0 in
        let same : ticket ≡ c.in-Pending.ticket = cc in same ∙ run.2 ∙ sym reachable.2.next_is;
    unchanged = search rules;
  },
)
