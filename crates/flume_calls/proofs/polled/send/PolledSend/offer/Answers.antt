-- Which row an offer is.
use Rattle.std.proofs.Common.{refl, rules}
use Rattle.flume_calls.specs.Polls.{OneStep}
use Rattle.flume_calls.specs.PolledSends.{Tries, Parks}
use Rattle.flume_calls.proofs.polled.send.PolledSend.offer.Goals as goal

pub returns-in_default-clause-row : goal.returns-in_default-clause-row
returns-in_default-clause-row g c =
    let first = c.first.ensures in
    Tries c.args.message _ refl (search rules) first.turn first.answers first.outcome c.finish_poll.ensures.finishes

pub returns-in_default-clause-step : goal.returns-in_default-clause-step
returns-in_default-clause-step g c =
    let turn = c.first.ensures.turn in OneStep _ turn.reply turn.stepped

pub returns-clause-row : goal.returns-clause-row
returns-clause-row g c =
    let park = c.park.ensures in
    Parks c.args.message _ _ refl (search rules) park.turn park.answers park.outcome c.finish_poll-2.ensures.finishes

pub returns-clause-step : goal.returns-clause-step
returns-clause-step g c =
    let turn = c.park.ensures.turn in OneStep _ turn.reply turn.stepped
