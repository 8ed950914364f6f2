-- Nothing is done yet.
use Rattle.flume_actions.proofs.CallerLemmas.{no_call}
use Rattle.flume.proofs.polled.traced_receive.PartyRecvFut+T+R+A+Traced+T+A+J.new.Goals as goal

pub returns-clause-can_poll : goal.returns-clause-can_poll
returns-clause-can_poll g c = rw (c.of-start.ensures, c.new.ensures.new) (no_call c.args.me)
