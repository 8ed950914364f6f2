-- Each poll is that of the send's state.
use Rattle.std.proofs.Common.{◌≡◌, rules}
use Rattle.flume_calls.specs.declared.polled.send.PolledSend.TheVariants.{Unsent, Parked}
use Rattle.flume_calls.proofs.polled.send.PolledSendPolled.poll.Goals as goal

pub returns-in-Unsent-clause-row : goal.returns-in-Unsent-clause-row
returns-in-Unsent-clause-row g c =
    let was : c.args.self.now ≡ Unsent c.in-Unsent.message = search rules in
    let given : c.args.signal.now ≡ c.take.result = search rules in
    rw (was, given) c.offer.ensures.row

pub returns-in-Parked-clause-row : goal.returns-in-Parked-clause-row
returns-in-Parked-clause-row g c =
    let was : c.args.self.now ≡ Parked c.in-Parked.call = search rules in
    let given : c.args.signal.now ≡ c.take-in-Parked.result = search rules in
    rw (was, given) c.ask.ensures.row
