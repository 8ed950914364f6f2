-- Which row a poll of a parked receive is.
use Rattle.std.proofs.Common.{◌≡◌, refl, rules, is_some}
use Rattle.flume_calls.specs.Polls.{OneStep}
use Rattle.flume_calls.specs.PolledReceives.{Unsignalled, Asks}
use Rattle.flume_calls.proofs.polled.receive.PolledReceive.ask.Goals as goal

pub returns-then-receive_would_wait-clause-row : goal.returns-then-receive_would_wait-clause-row
returns-then-receive_would_wait-clause-row g c =
    Unsignalled c.args.call refl (search rules) (search rules) refl refl refl

pub returns-clause-row : goal.returns-clause-row
returns-clause-row g c =
    let again = c.again.ensures in
    let signalled : is_some c.args.signal ≡ c.is_some-signalled.result = search rules in
    Asks _ c.args.call refl (search rules) again.turn again.answers again.not_refused again.outcome
    (rw signalled c.finish_poll.ensures.finishes)

pub returns-clause-step : goal.returns-clause-step
returns-clause-step g c =
    let turn = c.again.ensures.turn in OneStep _ turn.reply turn.stepped
