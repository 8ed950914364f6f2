-- For every contract: the state of the parked receivers, their notices, and which of them are due.
use Rattle.std.specs.Prelude.{◌≡◌, ◌==◌, ℕ, Bool, true, false, if◌then◌else◌}
use Rattle.std.specs.Prelude.{List, [], ◌∷◌, ◌++◌}
use Rattle.std.specs.Prelude.{Option, Some, None}
use Rattle.std.specs.List.{All}
use Rattle.std.specs.Option.{option_map}
use Rattle.flume_model.specs.Entries.{entry_of}
use Rattle.flume_model.specs.declared.step.Kind.{Kind}
use Rattle.flume_model.specs.declared.step.Kind.TheVariants.{Block}
use Rattle.flume_model.specs.declared.entry.Entry.{Entry}
use Rattle.flume_model.specs.declared.entry.Mark.{Mark}
use Rattle.flume_model.specs.declared.entry.Mark.TheVariants.{Waiting, Woken, Filled}
use Rattle.flume_state.specs.declared.notice.Notice.{Notice}
use Rattle.flume_state.specs.Notices.{new_notice, no_longer_due, with_signal}
use Rattle.flume_state.specs.declared.entries.ReceiverStatus.{ReceiverStatus}
use Rattle.flume_state.specs.declared.entries.ReceiverStatus.TheVariants.{Filled as IsFilled}
use Rattle.flume_state.specs.declared.entries.ReceiverStatus.TheVariants.{BlockWaiting, BlockWoken}
use Rattle.flume_state.specs.declared.entries.ReceiverStatus.TheVariants.{Waiting as IsWaiting}
use Rattle.flume_state.specs.declared.entries.ReceiverStatus.TheVariants.{Woken as IsWoken}

-- the entries of a state
abbrev pub EntryList : Type 0 → Type 0 → Type 0
EntryList T S = List (Entry T (Notice S))

-- the queue after a wake round: its front is taken if the round filled a receiver
abbrev pub after_fill : {T : Type 0} → Option ℕ → List T → List T
after_fill None queue = queue
after_fill (Some ticket) [] = []
after_fill (Some ticket) (front ∷ queue) = queue

-- it asks by looking at the line
abbrev pub looks_at_line : Option ReceiverStatus → Bool
looks_at_line (Some BlockWoken) = true
looks_at_line (Some IsWaiting) = true
looks_at_line (Some IsWoken) = true
looks_at_line _ = false

-- it blocks, and isn't filled: it leaves with the front of the line
abbrev pub is_unfilled_block : Option ReceiverStatus → Bool
is_unfilled_block (Some BlockWaiting) = true
is_unfilled_block (Some BlockWoken) = true
is_unfilled_block _ = false

-- it doesn't block, and isn't filled: it leaves with no message
abbrev pub only_leaves : Option ReceiverStatus → Bool
only_leaves (Some IsWaiting) = true
only_leaves (Some IsWoken) = true
only_leaves _ = false

module _ {S : Type 0} where
  -- the notice of one that waits on, with another signal if one is given
  abbrev pub waits_on : Option S → Notice S → Notice S
  waits_on given n = no_longer_due (with_signal given n)

module _ {T : Type 0} where
  -- what decides how a parked receiver is answered
  abbrev pub status_by : Kind → Mark T → ReceiverStatus
  status_by kind (Filled message) = IsFilled
  status_by Block Waiting = BlockWaiting
  status_by Block Woken = BlockWoken
  status_by kind Waiting = IsWaiting
  status_by kind Woken = IsWoken

module _ {T S : Type 0} where
  -- a receiver that has just parked, with this signal
  abbrev pub new_receiver : ℕ → Kind → S → Entry T (Notice S)
  new_receiver ticket kind signal = record {
    ticket = ticket;
    kind = kind;
    mark = Waiting;
    notice = new_notice signal;
  }

  -- the entries with the notice of a ticket changed
  abbrev pub with_receiver_notice : (Notice S → Notice S) → ℕ → EntryList T S → EntryList T S
  with_receiver_notice f t [] = []
  with_receiver_notice f t (e ∷ entries) =
      if e.ticket == t then record e { notice = f e.notice } ∷ entries
      else e ∷ with_receiver_notice f t entries

  -- the state of an entry
  abbrev pub status_of : Entry T (Notice S) → ReceiverStatus
  status_of e = status_by e.kind e.mark

  -- the state of the receiver with a ticket
  abbrev pub receiver_status : ℕ → EntryList T S → Option ReceiverStatus
  receiver_status t entries = option_map status_of (entry_of t entries)

  -- no parked receiver is due
  abbrev pub NoDueReceiver : EntryList T S → Type 0
  NoDueReceiver entries = All (λ e. e.notice.due ≡ false) entries

  -- one that was due, under this ticket, is due no more
  pub record NamesReceiver (old new : EntryList T S) (ticket : ℕ) : Type 0 where
    pub before : EntryList T S
    pub entry : Entry T (Notice S)
    pub later : EntryList T S
    pub found : old ≡ before ++ entry ∷ later
    pub is_it : entry.ticket ≡ ticket
    pub was_due : entry.notice.due ≡ true
    pub named : new ≡ before ++ record entry { notice = no_longer_due entry.notice } ∷ later
