-- What holds of the parked receivers of each run.
use Rattle.std.specs.Prelude.{◌≡◌, ℕ, ◌+◌, ◌<◌, ◌≤◌, Bool, true, false, ◌&&◌, List, [], ◌∷◌, length}
use Rattle.std.specs.Prelude.{max, Option, Some, None}
use Rattle.std.specs.List.{list_any}
use Rattle.flume_model.specs.declared.step.Kind.{Kind}
use Rattle.flume_model.specs.declared.step.Kind.TheVariants.{Block}
use Rattle.flume_model.specs.declared.entry.Entry.{Entry}
use Rattle.flume_model.specs.Log.{Log, Opening, was_filled}
use Rattle.flume_model.specs.Counts.{senders, receivers}
use Rattle.flume_model.specs.Line.{line, capacity, greatest, queue_len, blocked, next_ticket}
use Rattle.flume_model.specs.Line.{is_live}
use Rattle.flume_model.specs.Limits.{IsAtCapacity, IsOpen, IsClosed}
use Rattle.flume_model.specs.Entries.{is_woken, is_filled, some_wait, waiting_count, woken_count}
use Rattle.flume_model.specs.Entries.{entry_of}
use Rattle.flume_model.specs.Parked.{LogEntry, entries, peak}

-- at most the greater of the capacity and another number; no bound if there is no capacity
abbrev pub IsWithinCapacity : Option ℕ → ℕ → ℕ → Type 0
IsWithinCapacity None other n = Unit {0}
IsWithinCapacity (Some capacity) other n = n ≤ max capacity other

-- whether this kind blocks
abbrev pub is_block : Kind → Bool
is_block Block = true
is_block _ = false

module _ {T N : Type 0} where
  -- the tickets of these entries are below a bound, and each is another
  abbrev pub DistinctTickets : ℕ → List (Entry T N) → Type 0
  DistinctTickets bound [] = Unit {0}
  DistinctTickets bound (e ∷ entries) =
      (e.ticket < bound) × (entry_of e.ticket entries ≡ None) × DistinctTickets bound entries

  -- some receiver that blocks is woken
  abbrev pub block_woken : List (Entry T N) → Bool
  block_woken entries = list_any (λ e. is_block e.kind && is_woken e.mark) entries

module _ {T A : Type 0} where
  -- while a receiver waits, at least as many are woken as messages are queued
  abbrev pub Covered : Opening → Log T A → Type 0
  Covered opening log =
      some_wait (entries opening log) ≡ true
      → queue_len opening log ≤ woken_count (entries opening log)

  -- queued messages and waiting receivers are together within the greatest capacity or the peak
  abbrev pub Bounded : Opening → Log T A → Type 0
  Bounded opening log =
      IsWithinCapacity (greatest opening log) (peak opening log)
      (queue_len opening log + waiting_count (entries opening log))

  -- a receiver waits, and the bounds of `Covered` and `Bounded` are both met
  pub record MeetsBounds (opening : Opening) (log : Log T A) : Type 0 where
    pub waits : some_wait (entries opening log) ≡ true
    pub woken : queue_len opening log ≡ woken_count (entries opening log)
    pub limit : ℕ
    pub bounded : greatest opening log ≡ Some limit
    pub queued :
        queue_len opening log + waiting_count (entries opening log) ≡ max limit (peak opening log)

  -- nobody waits for a message or for room that is there
  pub record NobodyStuck (opening : Opening) (log : Log T A) : Type 0 where
    pub waiting_receivers :
        some_wait (entries opening log) ≡ true
        → (line log ≡ []) × IsOpen (senders log) (receivers log)
    pub blocked_senders :
        queue_len opening log < length (line log)
        → IsAtCapacity (capacity opening log) (queue_len opening log)
        × (some_wait (entries opening log) ≡ false)

  -- a receiver that blocks is woken only in a closed channel, and only if no sender is blocked
  abbrev pub WokenBlockWhileClosed : Opening → Log T A → Type 0
  WokenBlockWhileClosed opening log =
      block_woken (entries opening log) ≡ true
      → IsClosed (senders log) (receivers log) × (blocked opening log ≡ [])

  -- no ticket is live of a send and of a receiver
  abbrev pub TicketsDisjoint : Opening → Log T A → Type 0
  TicketsDisjoint opening log =
      (t : ℕ) → is_live log t ≡ true
      → (t < next_ticket opening log) × (entry_of t (entries opening log) ≡ None)

  -- a receiver is filled exactly if a reply named its ticket as filled
  abbrev pub FilledIfNamed : Opening → Log T A → Type 0
  FilledIfNamed opening log =
      (t : ℕ) (e : LogEntry T) → entry_of t (entries opening log) ≡ Some e
      → was_filled log t ≡ is_filled e.mark
