use Rattle.std.proofs.Common.{ap, not, sym, subst}
use Rattle.flume_state.specs.Receivers.{NoDueReceiver}
use Rattle.flume_state.proofs.EntryPartLemmas.{read_some, read_value}
use Rattle.flume_state.proofs.EntryNotifyLemmas.{dues_at, none_due, same_start, sorted_told, tells, two_boundaries}
use Rattle.flume_state.proofs.entries.Entries.take_first_due.Goals as goal

pub returns-then-eq-clause-none_due : goal.returns-then-eq-clause-none_due
returns-then-eq-clause-none_due g c =
    let same = same_start c.self.inside.due c.self.inside.waits (ap not (sym c.if-eq.ensures)) in
    subst NoDueReceiver c.self.view_is (none_due _ _ _ _ c.self.invariant same)

pub returns-in_err-ticket-clause-none_due : goal.returns-in_err-ticket-clause-none_due
returns-in_err-ticket-clause-none_due g c =
    let d = dues_at _ _ _ _ _ c.self.invariant (two_boundaries _ _ (sym c.if-eq.ensures)) c.in_ok-place.was in
    absurd (read_some _ _ _ d.here c.in_err-ticket.ensures.ticket)

pub invariant_of-self-2 : goal.invariant_of-self-2
invariant_of-self-2 g c =
    let d = dues_at _ _ _ _ _ c.self.invariant (two_boundaries _ _ (sym c.if-eq.ensures)) c.in_ok-place.was in
    let value = read_value _ _ _ _ d.here c.in_ok-parked.ensures.value in
    rw (value, c.next-next.ensures.next) (sorted_told _ _ _ _ _ c.self.invariant d)

pub returns-clause-named : goal.returns-clause-named
returns-clause-named g c =
    let d = dues_at _ _ _ _ _ c.self.invariant (two_boundaries _ _ (sym c.if-eq.ensures)) c.in_ok-place.was in
    let value = read_value _ _ _ _ d.here c.in_ok-parked.ensures.value in
    let ticket = read_value _ _ _ _ d.here c.in_ok-ticket.ensures.ticket in
    rw (value, ticket) (tells _ _ _ _ _ _ c.self.invariant d c.self.view_is)
