-- What the party did.
use Rattle.flume.proofs.PartyIteratorLemmas.{traced_next_until}
use Rattle.flume.proofs.deadline_iter.DeadlineIterTracedIterator.next.Goals as goal

pub returns-clause-steps : goal.returns-clause-steps
returns-clause-steps g c = traced_next_until _ _ _ c.next_as.ensures.next c.next_as.ensures.did
