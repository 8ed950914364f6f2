use Rattle.std.proofs.Common.{sym}
use Rattle.flume_state.proofs.TableLemmas.{nothing_removed}
use Rattle.flume_state.proofs.places.ticket_table.TicketTable.remove.Goals as goal
use Rattle.flume_state.proofs.places.ticket_table.TicketTable.remove.Goals.{in-Some, in_default}

pub returns : goal.returns
returns g c = elim c.match-self.branch [
  | in-Some w ↦ record {
    removed =
        rw (sym c.self.view_is)
        (rw (w.self-inside-is, w.in-Some.is, sym w.deref_mut.ensures.value) w.remove_from.ensures.removed);
  }
  | in_default w ↦ record {
    removed = rw (sym c.self.view_is) (rw (w.self-inside-is, w.in_default.is) (sym (nothing_removed c.args.ticket)));
  }
]
