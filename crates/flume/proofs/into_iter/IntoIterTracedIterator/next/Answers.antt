-- What the party did.
use Rattle.std.proofs.Common.{refl}
use Rattle.flume.proofs.PartyIteratorLemmas.{traced_next}
use Rattle.flume.proofs.into_iter.IntoIterTracedIterator.next.Goals as goal

pub returns-clause-steps : goal.returns-clause-steps
returns-clause-steps g c =
    let said = c.receive.ensures in
    rw (← c.self.view_is) (traced_next _ _ _ refl said.calls_left said.fault said.received)
