-- When a call would have to wait: what a state says of it.
use Rattle.std.specs.Prelude.{◌≡◌, ℕ, false, Some, [], length}
use Rattle.flume_model.specs.Limits.{IsOpen, IsAtCapacity}
use Rattle.flume_model.specs.Entries.{some_wait}
use Rattle.flume_state.specs.Effects.{with_front}
use Rattle.flume_state.specs.State.{State, accepted_at}

module _ {T S : Type 0} where
  -- a receive finds nothing: no message is queued or blocked, and the channel is open
  abbrev pub FindsNothing : State T S → Type 0
  FindsNothing s = ((with_front s).queue ≡ []) × IsOpen s.senders s.receivers

  -- an offer finds no room: the channel is open and at its capacity, and no receiver waits
  abbrev pub FindsNoRoom : State T S → Type 0
  FindsNoRoom s = IsOpen s.senders s.receivers × (some_wait s.entries ≡ false)
      × IsAtCapacity s.capacity (length s.queue)

  -- the send with this ticket is blocked, in an open channel
  abbrev pub IsHeldBack : ℕ → State T S → Type 0
  IsHeldBack ticket s = (accepted_at s ticket ≡ Some false) × IsOpen s.senders s.receivers
