-- Nothing is done yet.
use Rattle.std.proofs.Common.{sym}
use Rattle.flume_actions.proofs.CallerLemmas.{no_call}
use Rattle.flume.proofs.polled.traced_send.PartySendFut+T+R+A+Traced+T+A+J.new.Goals as goal

pub returns-clause-can_poll : goal.returns-clause-can_poll
returns-clause-can_poll g c = (sym c.of-offered.ensures, rw c.of-start.ensures (no_call c.args.me))
