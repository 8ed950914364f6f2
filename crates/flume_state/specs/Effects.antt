-- For every contract: what some steps leave, as functions of the state before them.
use Rattle.std.specs.Prelude.{◌≡◌, ◌==◌, ℕ, ◌+◌, Bool, not, ◌&&◌, if◌then◌else◌, List, [], ◌∷◌}
use Rattle.std.specs.Prelude.{◌++◌}
use Rattle.std.specs.Prelude.{length, max, ◌<◌, Option, Some}
use Rattle.std.specs.FinMap.{remove}
use Rattle.flume_model.specs.Limits.{is_closed, is_full, IsOpen, most}
use Rattle.flume_model.specs.Line.{greater}
use Rattle.flume_model.specs.declared.step.Kind.{Kind}
use Rattle.flume_state.specs.Messages.{Blocked}
use Rattle.flume_state.specs.Notices.{due_now}
use Rattle.flume_state.specs.Sends.{SendMap, with_send_changed, accepted_now, with_send_notice}
use Rattle.flume_model.specs.Entries.{all_woken, entry_of, without_ticket, round_for}
use Rattle.flume_model.specs.Entries.{round_for_fills, passes_on, leave_fills, waiting_count}
use Rattle.flume_state.specs.Receivers.{EntryList, new_receiver, after_fill}
use Rattle.flume_state.specs.State.{State, with_nothing_left}

module _ {T S : Type 0} where
  -- the live sends, if each of these blocked ones is due
  abbrev pub with_all_due : List (Blocked T) → SendMap S → SendMap S
  with_all_due [] sends = sends
  with_all_due (b ∷ blocked) sends = with_all_due blocked (with_send_notice due_now b.ticket sends)

  -- the state whose first blocked message, of these, has joined the queue
  abbrev pub after_admission_of : List (Blocked T) → State T S → State T S
  after_admission_of [] s = s
  after_admission_of (b ∷ later) s = record s {
    queue = s.queue ++ b.message ∷ [];
    blocked = later;
    sends = with_send_changed s.sends b.ticket accepted_now;
  }

  -- the state whose first blocked message, if one is blocked, has joined the queue
  abbrev pub after_admission : State T S → State T S
  after_admission s = after_admission_of s.blocked s

  -- the state whose first blocked message has joined the queue, if the queue has room
  abbrev pub after_admission_if_room : State T S → State T S
  after_admission_if_room s =
      if not (is_full s.capacity (length s.queue)) then after_admission s else s

  -- the state whose first blocked message has joined the queue, if this queue is empty
  abbrev pub with_front_of : List T → State T S → State T S
  with_front_of [] s = after_admission s
  with_front_of (m ∷ rest) s = s

  -- the state whose first blocked message has joined the queue, if none is queued
  abbrev pub with_front : State T S → State T S
  with_front s = with_front_of s.queue s

  -- the state whose queue takes blocked messages in while it has room, of these blocked ones
  abbrev pub after_admissions_of : List (Blocked T) → State T S → State T S
  after_admissions_of [] s = s
  after_admissions_of (b ∷ later) s =
      if is_full s.capacity (length s.queue) then s else after_admissions_of later (record s {
        queue = s.queue ++ b.message ∷ [];
        blocked = later;
        sends = with_send_changed s.sends b.ticket accepted_now;
      })

  -- the state whose queue takes blocked messages in while it has room
  abbrev pub after_admissions : State T S → State T S
  after_admissions s = after_admissions_of s.blocked s

  -- the state with this capacity, whose queue then takes blocked messages in while it has room
  abbrev pub with_capacity : ℕ → State T S → State T S
  with_capacity new s = after_admissions (record s {
    capacity = Some new;
    greatest = greater s.greatest (Some new);
  })

  -- the state after a wake round
  abbrev pub after_wake_round : State T S → State T S
  after_wake_round s = record s {
    queue = after_fill (round_for_fills s.queue s.entries) s.queue;
    entries = round_for due_now s.queue s.entries;
  }

  -- the state without the parked receiver that has this ticket
  abbrev pub without_receiver : ℕ → State T S → State T S
  without_receiver ticket s = record s { entries = without_ticket ticket s.entries }

  -- the state after the front of the line was handed out, which left this of the queue
  abbrev pub after_take : List T → State T S → State T S
  after_take rest s = after_admission_if_room (record (with_front s) { queue = rest })

  -- the state after this receiver has left, with a wake round if it passes its wake on
  abbrev pub after_withdrawal : ℕ → State T S → State T S
  after_withdrawal ticket s =
      if passes_on (entry_of ticket s.entries) then after_wake_round (without_receiver ticket s)
      else without_receiver ticket s

  -- the state with these entries, and the peak that they make
  abbrev pub with_peak : EntryList T S → State T S → State T S
  with_peak entries s = record s { entries = entries; peak = max s.peak (waiting_count entries) }

  -- what an end that left leaves: nothing once both have disconnected; and if the channel was open
  -- and is closed now, each waiting receiver is woken, and each blocked send is due
  abbrev pub after_end_dropped : Bool → State T S → State T S
  after_end_dropped was_open s =
      if s.senders + s.receivers == 0 then with_nothing_left s
      else (if was_open && is_closed s.senders s.receivers then record s {
        sends = with_all_due s.blocked s.sends;
        entries = all_woken due_now s.entries;
      } else s)

  -- a receiver of this kind parks behind all others, under the next ticket, with this signal
  pub record Begins (old new : State T S) (ticket : ℕ) (kind : Kind) (signal : S) : Type 0 where
    pub nothing : (with_front old).queue ≡ []
    pub is_open : IsOpen old.senders old.receivers
    pub below_most : old.next_ticket < most
    pub next_is : ticket ≡ old.next_ticket
    pub parked : new ≡ with_peak (old.entries ++ new_receiver ticket kind signal ∷ [])
        (record old { next_ticket = old.next_ticket + 1 })

  -- a parked receiver leaves with no message, and its wake fills this one, if it fills one
  pub record Departs (old new : State T S) (ticket : ℕ) (closed : Bool) (filled : Option ℕ)
      : Type 0 where
    pub fills : filled ≡ leave_fills ticket old.queue old.entries
    pub becomes : new ≡ after_withdrawal ticket old
    pub closed_is : closed ≡ is_closed old.senders old.receivers

  -- a message joins the queue, and a wake round follows, which fills this receiver, if it fills one
  pub record Joins (old new : State T S) (message : T) (filled : Option ℕ) : Type 0 where
    pub fills : filled ≡ round_for_fills (old.queue ++ message ∷ []) old.entries
    pub becomes : new ≡ after_wake_round (record old {
      queue = old.queue ++ message ∷ [];
      space = new.space;
    })

  -- the blocked message with this ticket comes back, and the ticket is spent
  pub record Returns (old new : State T S) (ticket : ℕ) (message : T) (closed : Bool) : Type 0 where
    pub before : List (Blocked T)
    pub later : List (Blocked T)
    pub found : old.blocked ≡ before ++ record { ticket = ticket; message = message } ∷ later
    pub becomes : new ≡ record old { blocked = before ++ later; sends = remove old.sends ticket }
    pub closed_is : closed ≡ is_closed old.senders old.receivers
