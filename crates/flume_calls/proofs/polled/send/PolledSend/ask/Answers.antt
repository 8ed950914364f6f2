-- A parked send asks again.
use Rattle.std.proofs.Common.{refl, rules}
use Rattle.flume_calls.specs.Polls.{OneStep}
use Rattle.flume_calls.specs.PolledSends.{Asks}
use Rattle.flume_calls.proofs.polled.send.PolledSend.ask.Goals as goal

pub returns-clause-row : goal.returns-clause-row
returns-clause-row g c =
    let again = c.again.ensures in
    Asks _ c.args.call _ refl (search rules) (search rules) again.turn again.answers again.outcome c.finish_poll.ensures.finishes

pub returns-clause-step : goal.returns-clause-step
returns-clause-step g c =
    let turn = c.again.ensures.turn in OneStep _ turn.reply turn.stepped
