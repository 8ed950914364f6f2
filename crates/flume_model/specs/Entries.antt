-- The parked receivers, an entry each, the waiting ones in order. N is what else an entry has.
use Rattle.std.specs.Prelude.{◌==◌, ℕ, ◌+◌, Bool, true, false, if◌then◌else◌, List, [], ◌∷◌, ◌++◌}
use Rattle.std.specs.Prelude.{map, Option, Some, None}
use Rattle.std.specs.List.{list_any}
use Rattle.flume_model.specs.declared.step.Kind.{Kind}
use Rattle.flume_model.specs.declared.step.Kind.TheVariants.{Block, Stream}
use Rattle.flume_model.specs.declared.entry.Entry.{Entry}
use Rattle.flume_model.specs.declared.entry.Mark.{Mark}
use Rattle.flume_model.specs.declared.entry.Mark.TheVariants.{Waiting, Woken, Filled}

module _ {T : Type 0} where
  -- the receiver waits
  abbrev pub is_waiting : Mark T → Bool
  is_waiting Waiting = true
  is_waiting _ = false

  -- the receiver was woken, and hasn't asked since
  abbrev pub is_woken : Mark T → Bool
  is_woken Woken = true
  is_woken _ = false

  -- the receiver holds a message
  abbrev pub is_filled : Mark T → Bool
  is_filled (Filled message) = true
  is_filled _ = false

  -- the message that the receiver holds, if it holds one
  abbrev pub held_in : Mark T → Option T
  held_in (Filled message) = Some message
  held_in _ = None

-- the ticket that a round fills from a waiting entry on, if behind that it would fill `on`
abbrev pub filled_at : Kind → ℕ → Option ℕ → Option ℕ
filled_at Stream ticket on = on
filled_at Block ticket on = Some ticket
filled_at kind ticket on = None

module _ {T N : Type 0} where
  -- some receiver waits
  abbrev pub some_wait : List (Entry T N) → Bool
  some_wait entries = list_any (λ e. is_waiting e.mark) entries

  -- how many wait
  abbrev pub waiting_count : List (Entry T N) → ℕ
  waiting_count [] = 0
  waiting_count (e ∷ entries) = (if is_waiting e.mark then 1 else 0) + waiting_count entries

  -- how many are woken
  abbrev pub woken_count : List (Entry T N) → ℕ
  woken_count [] = 0
  woken_count (e ∷ entries) = (if is_woken e.mark then 1 else 0) + woken_count entries

  -- the entry with another mark; `notify` makes its notice say so
  abbrev pub marked : (N → N) → Mark T → Entry T N → Entry T N
  marked notify mark e = record e { mark = mark; notice = notify e.notice }

  -- a wake round from a waiting entry on, which ends at it or goes on behind a stream: those behind
  -- it are `others`, or `woken` if it goes on
  abbrev pub round_from : (N → N) → Kind → T → Entry T N → List (Entry T N) → List (Entry T N)
      → List (Entry T N)
  round_from notify Stream front e others woken = marked notify Woken e ∷ woken
  round_from notify Block front e others woken = marked notify (Filled front) e ∷ others
  round_from notify kind front e others woken = marked notify Woken e ∷ others

  -- a wake round: it ends at the first waiting entry that is no stream, which it fills or wakes
  abbrev pub round : (N → N) → T → List (Entry T N) → List (Entry T N)
  round notify front [] = []
  round notify front (e ∷ entries) =
      if is_waiting e.mark
      then round_from notify e.kind front e entries (round notify front entries)
      else e ∷ round notify front entries

  -- the ticket that a round fills, if it fills one
  abbrev pub round_fills : List (Entry T N) → Option ℕ
  round_fills [] = None
  round_fills (e ∷ entries) =
      if is_waiting e.mark then filled_at e.kind e.ticket (round_fills entries)
      else round_fills entries

  -- a wake round if this is the queue; there is none if nothing is queued
  abbrev pub round_for : (N → N) → List T → List (Entry T N) → List (Entry T N)
  round_for notify [] entries = entries
  round_for notify (front ∷ queue) entries = round notify front entries

  -- the ticket that this round fills, if it fills one
  abbrev pub round_for_fills : List T → List (Entry T N) → Option ℕ
  round_for_fills [] entries = None
  round_for_fills (front ∷ queue) entries = round_fills entries

  -- all that wait are woken
  abbrev pub all_woken : (N → N) → List (Entry T N) → List (Entry T N)
  all_woken notify entries =
      map (λ e. if is_waiting e.mark then marked notify Woken e else e) entries

  -- the first entry with a ticket
  abbrev pub entry_of : ℕ → List (Entry T N) → Option (Entry T N)
  entry_of t [] = None
  entry_of t (e ∷ entries) = if e.ticket == t then Some e else entry_of t entries

  -- the message that this entry, which may be there, holds, if it holds one
  abbrev pub held_by : Option (Entry T N) → Option T
  held_by None = None
  held_by (Some e) = held_in e.mark

  -- the entries without the first one with a ticket
  abbrev pub without_ticket : ℕ → List (Entry T N) → List (Entry T N)
  without_ticket t [] = []
  without_ticket t (e ∷ entries) = if e.ticket == t then entries else e ∷ without_ticket t entries

  -- the entries, if this is the one with a ticket: a woken one waits again behind the others
  abbrev pub again_as : ℕ → Option (Entry T N) → List (Entry T N) → List (Entry T N)
  again_as t None entries = entries
  again_as t (Some e) entries =
      if is_woken e.mark then without_ticket t entries ++ (record e { mark = Waiting }) ∷ []
      else entries

  -- a woken entry waits again, behind all others; a waiting one keeps its place
  abbrev pub again : ℕ → List (Entry T N) → List (Entry T N)
  again t entries = again_as t (entry_of t entries) entries

  -- whether a wake is passed on if this entry leaves: it was woken
  abbrev pub passes_on : Option (Entry T N) → Bool
  passes_on None = false
  passes_on (Some e) = is_woken e.mark

  -- the other entries after the one with a ticket leaves, if this is the queue
  abbrev pub after_leave : (N → N) → ℕ → List T → List (Entry T N) → List (Entry T N)
  after_leave notify t queue entries =
      if passes_on (entry_of t entries) then round_for notify queue (without_ticket t entries)
      else without_ticket t entries

  -- the ticket that the wake which the leaving entry passes on fills, if it fills one
  abbrev pub leave_fills : ℕ → List T → List (Entry T N) → Option ℕ
  leave_fills t queue entries =
      if passes_on (entry_of t entries) then round_for_fills queue (without_ticket t entries)
      else None
