use Rattle.std.proofs.Common.{sym}
use Rattle.flume_calls.proofs.locked.Locked.facts.Goals as goal

pub returns : goal.returns
returns g c =
    let rest = c.self.invariant in
    rw (sym c.self.view_is) (record {
      reachable = rest.reachable;
      facts = c.facts.ensures.facts rest.reachable;
      rest = c.facts.ensures.rest rest.reachable;
      no_send_is_due = rest.sends;
      no_receiver_is_due = rest.receivers;
    })
