-- A channel by whose next step no call may go on.
use Rattle.std.specs.Prelude.{◌≡◌, length}
use Rattle.flume_model.specs.Entries.{waiting_count}
use Rattle.flume_state.specs.State.{State}

module _ {T S : Type 0} where
  -- no send is blocked, and no parked receiver waits
  abbrev pub NoCallWaits : State T S → Type 0
  NoCallWaits s = (length s.blocked ≡ 0) × (waiting_count s.entries ≡ 0)
