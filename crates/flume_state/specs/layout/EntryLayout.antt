-- How the parked receivers lie in their chain. Of these the view of a channel has `entries_in`.
use Rattle.std.specs.Prelude.{◌≡◌, ℕ, ◌≤◌, ◌==◌, Bool, true, false, ⊤, if◌then◌else◌}
use Rattle.std.specs.Prelude.{List, [], ◌∷◌, ◌++◌, Option, Some, None, length}
use Rattle.flume_chain.specs.ChainState.{ChainItem, times, places, first_place}
use Rattle.flume_model.specs.Entries.{is_waiting, waiting_count, marked}
use Rattle.flume_model.specs.declared.entry.Entry.{Entry}
use Rattle.flume_model.specs.declared.entry.Mark.{Mark}
use Rattle.flume_model.specs.declared.entry.Mark.TheVariants.{Waiting, Filled}
use Rattle.flume_state.specs.declared.entries.ParkedReceiver.{ParkedReceiver}
use Rattle.flume_state.specs.declared.notice.Notice.{Notice}
use Rattle.flume_state.specs.layout.WithTicket.{WithTicket}
use Rattle.flume_state.specs.Receivers.{EntryList, waits_on}

-- a start once the element at a place, which has this one behind it, has left
abbrev pub start_without : Option ℕ → ℕ → Option ℕ → Option ℕ
start_without None k next = None
start_without (Some b) k next = if b == k then next else Some b

module _ {T N : Type 0} where
  -- the first entry that waits
  abbrev pub first_waiting : List (Entry T N) → Option (Entry T N)
  first_waiting [] = None
  first_waiting (e ∷ entries) = if is_waiting e.mark then Some e else first_waiting entries

  -- the entries with another mark of the first that waits, whose notice says so
  abbrev pub with_first_marked : (N → N) → Mark T → List (Entry T N) → List (Entry T N)
  with_first_marked tell mark [] = []
  with_first_marked tell mark (e ∷ entries) =
      if is_waiting e.mark then marked tell mark e ∷ entries
      else e ∷ with_first_marked tell mark entries

module _ {T S : Type 0} where
  -- what becomes of one with this mark that asks again: a filled one stays as it is
  abbrev pub after_asking : Mark T → Option S → ParkedReceiver T S → ParkedReceiver T S
  after_asking (Filled message) signal p = p
  after_asking _ signal p = record p { mark = Waiting; notice = waits_on signal p.notice }

  -- an element of the chain as an entry
  abbrev pub entry_in : ChainItem (WithTicket (ParkedReceiver T S)) → Entry T (Notice S)
  entry_in x = record {
    ticket = x.element.label;
    kind = x.element.value.kind;
    mark = x.element.value.mark;
    notice = x.element.value.notice;
  }

  -- the elements of the chain as entries
  abbrev pub entries_in : List (ChainItem (WithTicket (ParkedReceiver T S))) → EntryList T S
  entries_in [] = []
  entries_in (x ∷ items) = entry_in x ∷ entries_in items

  -- each waits, and is due, as these say
  abbrev pub Each : Bool → Bool → List (ChainItem (WithTicket (ParkedReceiver T S))) → Type 0
  Each waits due [] = ⊤
  Each waits due (x ∷ items) =
      (is_waiting x.element.value.mark ≡ waits)
      × (x.element.value.notice.due ≡ due)
      × Each waits due items

  -- the elements in their order, the boundaries, and how many wait
  pub record EntryLayout (items : List (ChainItem (WithTicket (ParkedReceiver T S))))
      (due waits : Option ℕ) (waiting : ℕ) : Type 0 where
    pub inactive : List (ChainItem (WithTicket (ParkedReceiver T S)))
    pub dues : List (ChainItem (WithTicket (ParkedReceiver T S)))
    pub last : List (ChainItem (WithTicket (ParkedReceiver T S)))
    pub is : items ≡ inactive ++ (dues ++ last)
    pub are_inactive : Each false false inactive
    pub are_due : Each false true dues
    pub wait : Each true false last
    pub first_due : due ≡ first_place (dues ++ last)
    pub first_waits : waits ≡ first_place last
    pub count : waiting ≡ waiting_count (entries_in items)
    pub apart : (k : ℕ) → times k (places items) ≤ 1
    pub fits : length items ≤ 4294967295
