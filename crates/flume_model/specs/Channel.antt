-- The abstract channel: how it is before a step, and what it says of sends and of the line.
use Rattle.std.specs.Prelude.{◌≡◌, ℕ, Bool, true, false, List, ◌∷◌, ◌++◌, Option, Some}
use Rattle.std.specs.List.{list_any}
use Rattle.flume_model.specs.Log.{Log, Opening, Offer, is_ticket}
use Rattle.flume_model.specs.Counts.{senders, receivers}
use Rattle.flume_model.specs.Line.{line, capacity, queue_len, queue, blocked, messages, next_ticket}
use Rattle.flume_model.specs.Line.{is_live}
use Rattle.flume_model.specs.Limits.{HasRoom, IsAtCapacity, IsOpen}
use Rattle.flume_model.specs.Entries.{some_wait}
use Rattle.flume_model.specs.Parked.{LogEntry, entries}

-- what a reply is judged by; the fields are as the definitions of a log with these names
pub record Channel (T : Type 0) : Type 0 where
  pub capacity : Option ℕ
  pub line : List T
  pub queue_len : ℕ
  pub queue : List T
  pub blocked : List (Offer T)
  pub entries : List (LogEntry T)
  pub is_live : ℕ → Bool
  pub next_ticket : ℕ
  pub senders : ℕ
  pub receivers : ℕ

module _ {T : Type 0} where
  -- an open channel takes a send in at once: a receiver waits, or the queue has room
  abbrev pub TakesIn : Channel T → Type 0
  TakesIn c =
      IsOpen c.senders c.receivers
      × (some_wait c.entries ≡ false → HasRoom c.capacity c.queue_len)

  -- an open channel takes no send in at once: no receiver waits, and the queue has no room
  abbrev pub TakesNoneIn : Channel T → Type 0
  TakesNoneIn c =
      IsOpen c.senders c.receivers × (some_wait c.entries ≡ false)
      × IsAtCapacity c.capacity c.queue_len

  -- the line begins with this message
  abbrev pub IsFront : Channel T → T → Type 0
  IsFront c message = (rest : List T) × (c.line ≡ message ∷ rest)

  -- some offer of these has the ticket
  abbrev pub has_ticket : ℕ → List (Offer T) → Bool
  has_ticket t some = list_any (λ offer. is_ticket t offer.ticket) some

  -- the ticket is live, and its message was taken in
  abbrev pub IsAccepted : Channel T → ℕ → Type 0
  IsAccepted c t = (c.is_live t ≡ true) × (has_ticket t c.blocked ≡ false)

  -- the ticket is live, and its message is blocked
  abbrev pub IsPending : Channel T → ℕ → Type 0
  IsPending c t = (c.is_live t ≡ true) × (has_ticket t c.blocked ≡ true)

  -- this message is blocked under the ticket, behind these and before those
  abbrev pub IsBlocked : Channel T → ℕ → T → Type 0
  IsBlocked c t m =
      (c.is_live t ≡ true) × (before : List (Offer T)) × (after : List (Offer T))
      × (c.blocked ≡ before ++ record { message = m; ticket = Some t } ∷ after)

module _ {T A : Type 0} where
  -- the channel after a log
  abbrev pub channel : Opening → Log T A → Channel T
  channel opening log = record {
    capacity = capacity opening log;
    line = messages (line log);
    queue_len = queue_len opening log;
    queue = queue opening log;
    blocked = blocked opening log;
    entries = entries opening log;
    is_live = is_live log;
    next_ticket = next_ticket opening log;
    senders = senders log;
    receivers = receivers log;
  }
