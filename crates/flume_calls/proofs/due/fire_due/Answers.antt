-- One ring for each that is due, and what the rings leave.
use Rattle.flume_calls.specs.Rings.{Rings, NoneDue, Rung}
use Rattle.flume_calls.proofs.DueCountLemmas.{fewer_due, still_due_before}
use Rattle.flume_calls.proofs.RingLemmas.{still_signal, left_signal, none_left, all_not_due}
use Rattle.flume_calls.proofs.due.fire_due.Goals as goal

pub ring_for-requires : goal.ring_for-requires
ring_for-requires g c = record {
  live = still_signal c.loop-ticket.chan c.next_due.new.self c.in-Some.ticket c.in-Some.ensures.named;
}

pub loop-ticket-smaller : goal.loop-ticket-smaller
loop-ticket-smaller g c =
    fewer_due c.args.chan.now c.loop-ticket.chan c.next_due.new.self c.in-Some.ticket c.in-Some.ensures.named c.loop-ticket.invariant.before

pub loop-ticket-preserved : goal.loop-ticket-preserved
loop-ticket-preserved g c =
    let old = c.loop-ticket.chan in
    let named = c.in-Some.ensures.named in
    let left = left_signal old c.next_due.new.self c.in-Some.ticket named in
    record {
      from_here = λ new end rest. c.loop-ticket.invariant.from_here new end
          (Rung named left.1 (c.ring_for.ensures.rung left.0 left.2) rest);
      represents = λ o log h. c.in-Some.ensures.represents o log (c.loop-ticket.invariant.represents o log h);
      before = still_due_before c.args.chan.now old c.next_due.new.self c.in-Some.ticket named c.loop-ticket.invariant.before;
    }

pub returns-clause-rings : goal.returns-clause-rings
returns-clause-rings g c =
    let none = c.in_default.ensures.none in
    let same = c.in_default.ensures.unchanged in
    let over : Rings g.B.Bell.rings c.loop-ticket.chan c.loop-ticket.bell c.next_due.new.self c.loop-ticket.bell =
    rw same (NoneDue none.0 none.1) in
    c.loop-ticket.invariant.from_here _ _ over

pub returns-clause-sends : goal.returns-clause-sends
returns-clause-sends g c = (none_left g.B.Bell.rings (returns-clause-rings g c)).0

pub returns-clause-receivers : goal.returns-clause-receivers
returns-clause-receivers g c = (none_left g.B.Bell.rings (returns-clause-rings g c)).1

pub returns-clause-none_due_any_more : goal.returns-clause-none_due_any_more
returns-clause-none_due_any_more g c = all_not_due g.B.Bell.rings (returns-clause-rings g c)

pub returns-clause-represents : goal.returns-clause-represents
returns-clause-represents g c o log h = c.in_default.ensures.represents o log (c.loop-ticket.invariant.represents o log h)
