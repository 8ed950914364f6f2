-- Each poll is that of a receive that is parked, or isn't.
use Rattle.std.proofs.Common.{◌≡◌, rules, Some, None}
use Rattle.flume_calls.proofs.polled.receive.PolledReceivePolled.poll.Goals as goal

pub returns-in-Some-clause-row : goal.returns-in-Some-clause-row
returns-in-Some-clause-row g c =
    let was : c.args.self.now.call ≡ Some c.in-Some.call = search rules in
    let given : c.args.signal.now ≡ c.take-in-Some.result = search rules in
    (search rules, rw (was, given) c.ask.ensures.row)

pub returns-in-None-clause-row : goal.returns-in-None-clause-row
returns-in-None-clause-row g c =
    let was : c.args.self.now.call ≡ None = search rules in
    let given : c.args.signal.now ≡ c.take-in-None.result = search rules in
    (search rules, rw (was, given) c.begin.ensures.row)
