-- The receivers parked after a log, and the most that waited at once.
use Rattle.std.specs.Prelude.{ℕ, Bool, not, ◌&&◌, if◌then◌else◌, List, [], ◌∷◌, ◌++◌, max, Some}
use Rattle.flume_model.specs.declared.entry.Entry.{Entry}
use Rattle.flume_model.specs.declared.entry.Mark.TheVariants.{Waiting}
use Rattle.flume_model.specs.Log.{Log, Opening, Change, Queues, Takes, Parks, Asks, Collects}
use Rattle.flume_model.specs.Log.{Leaves, SenderLeaves, ReceiverLeaves, change}
use Rattle.flume_model.specs.declared.step.Kind.{Kind}
use Rattle.flume_model.specs.Counts.{senders, receivers, is_over}
use Rattle.flume_model.specs.Limits.{is_closed}
use Rattle.flume_model.specs.Line.{queue}
use Rattle.flume_model.specs.Entries.{waiting_count, round_for, all_woken, without_ticket, again}
use Rattle.flume_model.specs.Entries.{after_leave}

-- an entry of a log: ticket, kind and mark alone
abbrev pub LogEntry : Type 0 → Type 0
LogEntry T = Entry T (Unit {0})

-- a log's notice, which never changes
abbrev pub same_notice : Unit {0} → Unit {0}
same_notice nothing = nothing

module _ {T : Type 0} where
  -- a receiver that has just parked
  abbrev pub new_entry : ℕ → Kind → LogEntry T
  new_entry ticket kind = record { ticket = ticket; kind = kind; mark = Waiting; notice = tt }

  -- the entries after a change, if this was the queue, and the change closes the channel or not
  abbrev pub entries_after : List T → Bool → List (LogEntry T) → Change T → List (LogEntry T)
  entries_after queue closes entries (Queues m filled) =
      round_for same_notice (queue ++ m ∷ []) entries
  entries_after queue closes entries (Takes message (Some ticket)) = without_ticket ticket entries
  entries_after queue closes entries (Parks ticket kind) = entries ++ new_entry ticket kind ∷ []
  entries_after queue closes entries (Asks ticket) = again ticket entries
  entries_after queue closes entries (Collects ticket) = without_ticket ticket entries
  entries_after queue closes entries (Leaves ticket filled) =
      after_leave same_notice ticket queue entries
  entries_after queue closes entries SenderLeaves =
      if closes then all_woken same_notice entries else entries
  entries_after queue closes entries ReceiverLeaves =
      if closes then all_woken same_notice entries else entries
  entries_after queue closes entries _ = entries

module _ {T A : Type 0} where
  -- all senders or all receivers have been dropped
  abbrev pub is_closed_after : Log T A → Bool
  is_closed_after log = is_closed (senders log) (receivers log)

  -- the parked receivers after a log; none once both sides have disconnected
  abbrev pub entries : Opening → Log T A → List (LogEntry T)
  entries opening [] = []
  entries opening (p ∷ past) =
      if is_over (p ∷ past) then []
      else entries_after (queue opening past)
      (not (is_closed_after past) && is_closed_after (p ∷ past))
      (entries opening past) (change past p.0 p.1)

  -- the most that waited at once so far
  abbrev pub peak : Opening → Log T A → ℕ
  peak opening [] = 0
  peak opening (p ∷ past) = max (peak opening past) (waiting_count (entries opening (p ∷ past)))
