-- What holds of the state of a channel that some run led to.
use Rattle.std.specs.Prelude.{◌≡◌, ℕ, ◌+◌, ◌<◌, ◌≤◌, Bool, true, false, [], length, Some, None}
use Rattle.std.specs.List.{All}
use Rattle.std.specs.FinMap.{get}
use Rattle.flume_model.specs.Limits.{IsAtCapacity, IsOpen, IsClosed}
use Rattle.flume_model.specs.Entries.{some_wait, waiting_count, woken_count, entry_of}
use Rattle.flume_model.specs.Laws.{Rising}
use Rattle.flume_model.specs.WaitLaws.{IsWithinCapacity, DistinctTickets, block_woken}
use Rattle.flume_state.specs.State.{State, accepted_at, offers_of}

module _ {T S : Type 0} where
  -- a sender is blocked only while the queue is at capacity and no receiver waits
  abbrev pub SendersBlockAtCapacity : State T S → Type 0
  SendersBlockAtCapacity s =
      0 < length s.blocked
      → IsAtCapacity s.capacity (length s.queue) × (some_wait s.entries ≡ false)

  -- a receiver waits only while the channel is open and no sender is blocked
  abbrev pub ReceiversWaitWhileOpen : State T S → Type 0
  ReceiversWaitWhileOpen s =
      some_wait s.entries ≡ true → IsOpen s.senders s.receivers × (s.blocked ≡ [])

  -- while a receiver waits, at least as many are woken as messages are queued
  abbrev pub WokenCoverQueued : State T S → Type 0
  WokenCoverQueued s = some_wait s.entries ≡ true → length s.queue ≤ woken_count s.entries

  -- queued messages and waiting receivers are together within the greatest capacity or the peak
  abbrev pub QueuedAndWaitingAreBounded : State T S → Type 0
  QueuedAndWaitingAreBounded s =
      IsWithinCapacity s.greatest s.peak (length s.queue + waiting_count s.entries)

  -- the tickets of parked receivers are below the next one, and each is another
  abbrev pub ReceiverTicketsDistinct : State T S → Type 0
  ReceiverTicketsDistinct s = DistinctTickets s.next_ticket s.entries

  -- the ticket of a live send is below the next one, and no parked receiver has it
  abbrev pub SendTicketsApart : State T S → Type 0
  SendTicketsApart s =
      (t : ℕ) (accepted : Bool) → accepted_at s t ≡ Some accepted
      → (t < s.next_ticket) × (entry_of t s.entries ≡ None)

  -- the tickets of blocked messages rise, and are below the next one
  abbrev pub BlockedTicketsRise : State T S → Type 0
  BlockedTicketsRise s = Rising s.next_ticket (offers_of s.blocked)

  -- each blocked message is that of a live send, which wasn't accepted
  abbrev pub BlockedSendsAreLive : State T S → Type 0
  BlockedSendsAreLive s = All (λ b. accepted_at s b.ticket ≡ Some false) s.blocked

  -- a live send that was accepted has a ticket below that of each blocked message
  abbrev pub AcceptedBeforeBlocked : State T S → Type 0
  AcceptedBeforeBlocked s =
      (t : ℕ) → accepted_at s t ≡ Some true → All (λ b. t < b.ticket) s.blocked

  -- once all senders and all receivers have been dropped, no message and no ticket is left
  abbrev pub EmptyOnceOver : State T S → Type 0
  EmptyOnceOver s =
      s.senders + s.receivers ≡ 0
      → (s.queue ≡ []) × (s.blocked ≡ []) × (s.entries ≡ []) × ((t : ℕ) → get s.sends t ≡ None)

  -- a receiver that blocks is woken only in a closed channel, and only if no sender is blocked
  abbrev pub BlockingWokenByClosing : State T S → Type 0
  BlockingWokenByClosing s =
      block_woken s.entries ≡ true → IsClosed s.senders s.receivers × (s.blocked ≡ [])

  -- nobody waits for a message or for room that is there
  pub record NobodyIsStuck (s : State T S) : Type 0 where
    pub waiting_receivers :
        some_wait s.entries ≡ true
        → (s.queue ≡ []) × (s.blocked ≡ []) × IsOpen s.senders s.receivers
    pub blocked_senders :
        0 < length s.blocked
        → IsAtCapacity s.capacity (length s.queue) × (some_wait s.entries ≡ false)

  -- all that holds of a state that some run led to
  pub record ChannelFacts (s : State T S) : Type 0 where
    pub senders_block_at_capacity : SendersBlockAtCapacity s
    pub receivers_wait_while_open : ReceiversWaitWhileOpen s
    pub woken_cover_queued : WokenCoverQueued s
    pub queued_and_waiting_are_bounded : QueuedAndWaitingAreBounded s
    pub receiver_tickets_are_apart : ReceiverTicketsDistinct s
    pub send_tickets_are_apart : SendTicketsApart s
    pub blocked_tickets_rise : BlockedTicketsRise s
    pub blocked_sends_are_live : BlockedSendsAreLive s
    pub accepted_are_before_blocked : AcceptedBeforeBlocked s
    pub nothing_is_left_once_over : EmptyOnceOver s
    pub blocking_woken_by_closing : BlockingWokenByClosing s
