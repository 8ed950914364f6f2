-- When a step may be answered with `NoMemory`: what a state says of it.
use Rattle.std.specs.Prelude.{◌≡◌, ◌≢◌, ◌<◌, ◌≤◌, ◌⊎◌, true, [], length}
use Rattle.flume_model.specs.declared.step.Step.{Step}
use Rattle.flume_model.specs.declared.step.Step.TheVariants.{TrySend, Send, TryRecv, Recv}
use Rattle.flume_model.specs.declared.step.Step.TheVariants.{Poll, Drain}
use Rattle.flume_model.specs.Limits.{IsOpen, most}
use Rattle.flume_state.specs.Receivers.{receiver_status, only_leaves}
use Rattle.flume_state.specs.State.{State, message_count}
use Rattle.flume_core.specs.Waiting.{FindsNothing, FindsNoRoom}

module _ {T S : Type 0} where
  -- a channel in this state may answer the step with `NoMemory`, even if `Chan` never does
  abbrev pub NoMemoryIsLawful : State T S → Step T → Type 0
  NoMemoryIsLawful s (TrySend message) = IsOpen s.senders s.receivers × (FindsNoRoom s → ⊥)
  NoMemoryIsLawful s (Send message) =
      IsOpen s.senders s.receivers × (FindsNoRoom s → s.next_ticket < most)
  NoMemoryIsLawful s TryRecv = 0 < length s.blocked
  NoMemoryIsLawful s (Recv kind) =
      (0 < length s.blocked) ⊎ (FindsNothing s × (s.next_ticket < most))
  NoMemoryIsLawful s (Poll ticket) =
      (only_leaves (receiver_status ticket s.entries) ≡ true) × (0 < length s.blocked)
  NoMemoryIsLawful s Drain = 0 < length s.queue
  NoMemoryIsLawful s _ = ⊥

  -- `Chan` itself may answer the step with `NoMemory`
  abbrev pub ChanMayAllocate : State T S → Step T → Type 0
  ChanMayAllocate s (TrySend message) = s.space ≤ message_count s
  ChanMayAllocate s (Send message) = FindsNoRoom s ⊎ (s.space ≤ message_count s)
  ChanMayAllocate s (Recv kind) = FindsNothing s × (s.next_ticket < most)
  ChanMayAllocate s Drain = s.queue ≢ []
  ChanMayAllocate s _ = ⊥
