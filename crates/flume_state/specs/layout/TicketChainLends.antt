-- For this crate alone: what a `TicketChain` ends as, if a `&mut` to one of its values is returned.
use Rattle.std.specs.Prelude.{ℕ, List, Option}
use Rattle.std.specs.Borrow.{LendsIf, Fml, RattleType, MutBor}
use Rattle.std.specs.declared.alloc.Allocator.{Ghosts}
use Rattle.flume_chain.specs.ChainState.{ChainItem}
use Rattle.flume_chain.specs.ChangedAt.{with_value_at}
use Rattle.flume_state.specs.layout.WithTicket.{WithTicket}
use Rattle.flume_state.specs.contracts.ticket_chain.TicketChain.{the_row}

module _ (E A : RattleType) (alloc : Ghosts A.Denot)
    (s : MutBor (List (ChainItem (WithTicket E.Denot)))) (place : ℕ) where
  -- once the borrow r ends, its last value is at the place; at `None` nothing changed
  abbrev pub lends_value : Option (MutBor E.Denot) → Fml
  lends_value r =
      LendsIf (the_row E A alloc) E s r
      (λ v. with_value_at place s.now v) s.now
