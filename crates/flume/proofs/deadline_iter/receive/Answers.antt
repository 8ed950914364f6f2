-- A receive without a deadline is never late, and a receive answered all that isn't late.
use Rattle.flume.specs.PartyIterators.{Received}
use Rattle.flume.proofs.InTimeLemmas.{receive_in_time}
use Rattle.flume.proofs.deadline_iter.receive.Goals as goal

pub returns-clause-has_deadline : goal.returns-clause-has_deadline
returns-clause-has_deadline g c late never = receive_in_time c.recv_until.ensures.made.1 never late

pub returns-clause-made : goal.returns-clause-made
returns-clause-made g c _ = c.recv_until.ensures.made

pub returns-clause-did : goal.returns-clause-did
returns-clause-did g c = Received c.recv_until.ensures.did
