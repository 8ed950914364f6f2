use Rattle.std.proofs.Common.{ap, not, sym, subst}
use Rattle.flume_state.specs.Receivers.{NoDueReceiver}
use Rattle.flume_state.proofs.EntryNotifyLemmas.{none_due, same_start}
use Rattle.flume_state.proofs.entries.Entries.next_due.Goals as goal

pub returns-then-eq-clause-none_due : goal.returns-then-eq-clause-none_due
returns-then-eq-clause-none_due g c =
    let same = same_start c.self.inside.due c.self.inside.waits (ap not (sym c.if-eq.ensures)) in
    subst NoDueReceiver c.self.view_is (none_due _ _ _ _ c.self.invariant same)
