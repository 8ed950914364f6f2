-- For every contract of a chain: what it ends as, once a `&mut` to one of its values has ended.
use Rattle.std.specs.Prelude.{ℕ, Option}
use Rattle.std.specs.Borrow.{Lends, LendsIf, Fml, RattleType, MutBor}
use Rattle.std.specs.declared.alloc.Allocator.{Ghosts}
use Rattle.flume_chain.specs.declared.labelled.LabelledValue.{LabelledValue}
use Rattle.flume_chain.specs.ChainState.{ChainState}
use Rattle.flume_chain.specs.ChangedAt.{with_value_at}
use Rattle.flume_chain.specs.contracts.chain.Chain.{the_row}

module _ (L E A : RattleType) (alloc : Ghosts A.Denot)
    (s : MutBor (ChainState (LabelledValue L.Denot E.Denot))) (place : ℕ) where
  -- the chain with this value at the place
  abbrev pub chain_with_value : E.Denot → ChainState (LabelledValue L.Denot E.Denot)
  chain_with_value v = record s.now { items = with_value_at place s.now.items v }

  -- once the borrow r ends, the place has the last value written through r
  abbrev pub lends_value : MutBor E.Denot → Fml
  lends_value r = Lends (the_row L E A alloc) E s r chain_with_value

  -- at a reference r it is so; at `None` the chain stays as it is
  abbrev pub lends_get : Option (MutBor E.Denot) → Fml
  lends_get r = LendsIf (the_row L E A alloc) E s r chain_with_value s.now
