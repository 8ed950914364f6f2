-- Nothing is done yet.
use Rattle.flume_actions.proofs.CallerLemmas.{no_call}
use Rattle.flume.proofs.polled.traced_sink.Sender+T+R+A+Traced+T+A+J.sink.Goals as goal

pub returns-clause-can_poll : goal.returns-clause-can_poll
returns-clause-can_poll g c = rw (c.of-start.ensures) (no_call c.args.me)
