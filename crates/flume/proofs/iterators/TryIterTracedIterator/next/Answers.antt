-- What the party did.
use Rattle.std.proofs.Common.{refl}
use Rattle.flume.proofs.PartyIteratorLemmas.{traced_try_next}
use Rattle.flume.proofs.iterators.TryIterTracedIterator.next.Goals as goal

pub returns-clause-steps : goal.returns-clause-steps
returns-clause-steps g c =
    let said = c.try_receive.ensures in
    rw (← c.self.view_is) (traced_try_next _ _ _ refl said.calls_left refl said.tried)
