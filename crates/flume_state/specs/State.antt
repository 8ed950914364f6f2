-- For every contract: what it sees of a `Chan`, its state.
use Rattle.std.specs.Prelude.{ℕ, ◌+◌, Bool, List, [], map, length, Option, Some}
use Rattle.std.specs.Option.{option_map}
use Rattle.std.specs.FinMap.{empty, get}
use Rattle.flume_model.specs.Log.{Opening, Offer}
use Rattle.flume_state.specs.Messages.{Blocked}
use Rattle.flume_state.specs.Sends.{SendMap}
use Rattle.flume_model.specs.declared.entry.Entry.{Entry}
use Rattle.flume_model.specs.Parked.{LogEntry}
use Rattle.flume_state.specs.Receivers.{EntryList}

-- the state of a channel
pub record State (T S : Type 0) : Type 0 where
  pub capacity : Option ℕ
  -- the greatest capacity so far, the one in force included
  pub greatest : Option ℕ
  pub queue : List T
  pub blocked : List (Blocked T)
  -- how many messages fit before one more needs an allocation, those that are there included
  pub space : ℕ
  pub sends : SendMap S
  pub entries : EntryList T S
  pub next_ticket : ℕ
  -- the most receivers that waited at once
  pub peak : ℕ
  pub senders : ℕ
  pub receivers : ℕ

module _ {T S : Type 0} where
  -- a new channel
  abbrev pub new_state : Opening → State T S
  new_state opening = record {
    capacity = opening.capacity;
    greatest = opening.capacity;
    queue = [];
    blocked = [];
    space = 0;
    sends = empty;
    entries = [];
    next_ticket = opening.first;
    peak = 0;
    senders = 1;
    receivers = 1;
  }

  -- no message and no ticket is left
  abbrev pub with_nothing_left : State T S → State T S
  with_nothing_left s = record s { queue = []; blocked = []; sends = empty; entries = [] }

  -- how many messages there are, queued and blocked
  abbrev pub message_count : State T S → ℕ
  message_count s = length s.queue + length s.blocked

  -- the state of a send ticket: none if it isn't live, else whether its message was accepted
  abbrev pub accepted_at : State T S → ℕ → Option Bool
  accepted_at s t = option_map (λ send. send.accepted) (get s.sends t)

module _ {T : Type 0} where
  -- blocked messages as offers
  abbrev pub offers_of : List (Blocked T) → List (Offer T)
  offers_of some = map (λ b. record { message = b.message; ticket = Some b.ticket }) some

  -- an entry as a log knows it
  abbrev pub bare : {N : Type 0} → Entry T N → LogEntry T
  bare e = record { ticket = e.ticket; kind = e.kind; mark = e.mark; notice = tt }
