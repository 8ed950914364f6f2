-- What a poll makes of its receive.
use Rattle.flume.proofs.ReceivePollLemmas.{leaves}
use Rattle.flume.proofs.polled.receive.RecvFutFuture.poll.Goals as goal

pub returns-in-Some-clause-call : goal.returns-in-Some-clause-call
returns-in-Some-clause-call g c = leaves c.in-Some.ensures.polled

pub returns-in-None-clause-call : goal.returns-in-None-clause-call
returns-in-None-clause-call g c = leaves c.in-None.ensures.polled
