use Rattle.std.proofs.Common.{refl, sym}
use Rattle.flume_state.proofs.TableLemmas.{nothing_seen}
use Rattle.flume_state.proofs.places.ticket_table.TicketTable.is_empty.Goals as goal

pub returns-in-Some : goal.returns-in-Some
returns-in-Some g c = record {
  empty = rw (sym c.self.view_is)
      (rw (c.in-Some.is, sym c.deref.ensures) (nothing_seen c.deref.result.now _ _ refl c.is_empty.ensures));
}
