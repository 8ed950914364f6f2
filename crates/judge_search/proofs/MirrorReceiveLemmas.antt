-- What a receive that leaves, asks again or parks leaves of a configuration mirrors what it leaves of a state.
use Rattle.std.proofs.Common.{◌≡◌, ◌≢◌, ℕ, ◌+◌, List, [], ◌∷◌, ◌++◌, map, Option, Some, None, refl, sym, ◌∙◌}
use Rattle.std.proofs.Common.{ap}
use Rattle.std.specs.List.{All}
use Rattle.std.specs.Option.{option_map}
use Rattle.std.proofs.lemmas.List.{map_push}
use Rattle.flume_model.specs.declared.step.Kind.{Kind}
use Rattle.flume_model.specs.declared.entry.Entry.{Entry}
use Rattle.flume_model.specs.declared.entry.Mark.{Mark}
use Rattle.flume_model.specs.declared.entry.Mark.TheVariants as mark
use Rattle.flume_model.specs.Entries.{entry_of, without_ticket, again, again_as, held_by, held_in, passes_on}
use Rattle.flume_model.specs.Entries.{is_woken}
use Rattle.flume_model.specs.Line.{next_ticket}
use Rattle.flume_model.specs.Log.{Log, Opening}
use Rattle.flume_model.specs.Parked.{LogEntry, entries}
use Rattle.flume_model.proofs.EntryMarkLemmas.{left_out}
use Rattle.flume_model.proofs.EntryShapeLemmas.{entries_apart}
use Rattle.flume_state.specs.declared.notice.Notice.{Notice}
use Rattle.flume_state.specs.Receivers.{with_receiver_notice, new_receiver, receiver_status, status_of, status_by}
use Rattle.flume_state.specs.State.{State as Channel, bare}
use Rattle.flume_state.specs.Effects.{without_receiver, with_peak}
use Rattle.flume_core.specs.Represents.{Represents}
use Rattle.flume_core.proofs.BareEntryLemmas.{bare_entry, bare_without, bare_again, bare_noticed}
use Rattle.flume_core.proofs.ViewLemmas.{none_mapped}
use Rattle.judge_calls.specs.declared.event.Event.{Event}
use Rattle.judge_search.specs.declared.configuration.ParkedReceive.{ParkedReceive}
use Rattle.judge_search.specs.declared.configuration.Status.{Status}
use Rattle.judge_search.specs.declared.configuration.Status.TheVariants as status
use Rattle.judge_search.specs.Configurations.{State, message_at}
use Rattle.judge_search.specs.ByPlaces.{without_receive, ask_again}
use Rattle.judge_search.specs.ByPlaces.{again_as as again_here}
use Rattle.judge_search.specs.Receives.{receive_at, without_place}
use Rattle.judge_search.specs.Outcomes.{with_parked}
use Rattle.judge_search.specs.Mirrors.{Mirrors, mark_of, some_mark, some_entry, entry_for}
use Rattle.judge_search.proofs.MoveAnswers.{with_ticket}
use Rattle.judge_search.proofs.RenamingLemmas.{some_entry_of, some_without, some_again}
use Rattle.judge_search.proofs.PlacingLemmas.{IsAlone, placed_entry, placed_without}
use Rattle.judge_search.proofs.LeftPlaceLemmas.{ticketed_itself, offers_kept, entries_kept}
use Rattle.judge_search.proofs.LeftReceiveLemmas.{places, absent, without_all}

module _ {T A : Type 0} (events : List (Event T A)) where
  -- a mark that stands so
  pub waiting_mark : (m : Mark T) → mark_of events status.Waiting ≡ some_mark m → m ≡ mark.Waiting
  waiting_mark mark.Waiting e = refl
  waiting_mark mark.Woken e = absurd (let none : ⊥ = cc in none)
  waiting_mark (mark.Filled x) e = absurd (let none : ⊥ = cc in none)

  pub woken_mark : (m : Mark T) → mark_of events status.Woken ≡ some_mark m → m ≡ mark.Woken
  woken_mark mark.Waiting e = absurd (let none : ⊥ = cc in none)
  woken_mark mark.Woken e = refl
  woken_mark (mark.Filled x) e = absurd (let none : ⊥ = cc in none)

  pub filled_mark : (p : ℕ) (m : Mark T) → mark_of events (status.Filled p) ≡ some_mark m
      → (x : T) × (m ≡ mark.Filled x) × (message_at events p ≡ Some x)
  filled_mark p mark.Waiting e = absurd (let none : ⊥ = cc in none)
  filled_mark p mark.Woken e = absurd (let none : ⊥ = cc in none)
  filled_mark p (mark.Filled x) e = (x, refl, (let same : message_at events p ≡ Some x = cc in same))

  module _ (tickets : ℕ → ℕ) where
    -- a parked receive as an entry
    abbrev placed : ParkedReceive → LogEntry (Option T)
    placed r = entry_for events tickets r

    -- the entry of the receive at a place, with the mark that it has
    pub record StandsAs (s : Channel T (Unit {0})) (place : ℕ) (r : ParkedReceive) : Type 0 where
      pub marked : Mark T
      pub is : mark_of events r.status ≡ some_mark marked
      pub represents : receiver_status (tickets place) s.entries ≡ Some (status_by r.kind marked)
      pub held : held_by (entry_of (tickets place) s.entries) ≡ held_in marked
      pub passes : passes_on (entry_of (tickets place) s.entries) ≡ is_woken marked

    module _ (s : Channel T (Unit {0})) (c : State) (place : ℕ) (h : Mirrors events tickets s c)
        (alone : All (IsAlone events tickets place) c.receives) where
      -- the receive at a place is the entry with its ticket
      found_same : option_map placed (receive_at place c.receives)
          ≡ option_map some_entry (option_map bare (entry_of (tickets place) s.entries))
      found_same =
          sym (placed_entry events tickets place c.receives alone) ∙ ap (entry_of (tickets place)) h.receives_are
          ∙ some_entry_of (tickets place) (map bare s.entries) ∙ ap (option_map some_entry) (bare_entry (tickets place) s.entries)

      pub stands_none : receive_at place c.receives ≡ None → receiver_status (tickets place) s.entries ≡ None
      stands_none none =
          let gone = sym found_same ∙ ap (option_map placed) none in
          ap (option_map status_of)
          (none_mapped bare (entry_of (tickets place) s.entries)
          (none_mapped some_entry (option_map bare (entry_of (tickets place) s.entries)) gone))

      pub stands_as : (r : ParkedReceive) → receive_at place c.receives ≡ Some r → StandsAs s place r
      stands_as r at = go (entry_of (tickets place) s.entries) refl (sym (ap (option_map placed) at) ∙ found_same)
        where
          go : (found : Option (Entry T (Notice (Unit {0})))) → entry_of (tickets place) s.entries ≡ found
              → Some (placed r) ≡ option_map some_entry (option_map bare found) → StandsAs s place r
          go None found same = absurd (let none : ⊥ = cc in none)
          go (Some e) found same =
              let is : placed r ≡ some_entry (bare e) = cc in
              let kind : r.kind ≡ e.kind = ap (λ x. x.kind) is in
              record {
                marked = e.mark;
                is = ap (λ x. x.mark) is;
                represents = ap (option_map status_of) found ∙ ap (λ k. Some (status_by k e.mark)) (sym kind);
                held = ap held_by found;
                passes = ap passes_on found;
              }

      -- it leaves
      pub mirror_without : Mirrors events tickets (without_receiver (tickets place) s) (without_receive place c)
      mirror_without = record {
        capacity_is = h.capacity_is;
        senders_are = h.senders_are;
        receivers_are = h.receivers_are;
        queue_is = h.queue_is;
        blocked_are = h.blocked_are;
        receives_are = placed_without events tickets place c.receives alone
            ∙ ap (without_ticket (tickets place)) h.receives_are
            ∙ sym (some_without (tickets place) (map bare s.entries))
            ∙ ap (map some_entry) (sym (bare_without (tickets place) s.entries));
      }

      -- it asks again
      placed_again : map placed (again_here place (receive_at place c.receives) c.receives)
          ≡ again (tickets place) (map placed c.receives)
      placed_again =
          go (receive_at place c.receives)
          ∙ ap (λ found. again_as (tickets place) found (map placed c.receives))
          (sym (placed_entry events tickets place c.receives alone))
        where
          go : (found : Option ParkedReceive) → map placed (again_here place found c.receives)
              ≡ again_as (tickets place) (option_map placed found) (map placed c.receives)
          go None = refl
          go (Some r) = step r.status r.kind r.place
            where
              step : (st : Status) (k : Kind) (q : ℕ)
                  → map placed (again_here place (Some (record { place = q; kind = k; status = st })) c.receives)
                  ≡ again_as (tickets place) (Some (placed (record { place = q; kind = k; status = st }))) (map placed c.receives)
              step status.Waiting k q = refl
              step status.Woken k q =
                  map_push placed (without_place place c.receives) (record { place = q; kind = k; status = status.Waiting })
                  ∙ ap (λ l. l ++ placed (record { place = q; kind = k; status = status.Waiting }) ∷ [])
                  (placed_without events tickets place c.receives alone)
              step (status.Filled x) k q = refl

      pub mirror_again : (f : Notice (Unit {0}) → Notice (Unit {0}))
          → Mirrors events tickets (with_peak (again (tickets place) (with_receiver_notice f (tickets place) s.entries)) s)
          (ask_again place c)
      mirror_again f = record {
        capacity_is = h.capacity_is;
        senders_are = h.senders_are;
        receivers_are = h.receivers_are;
        queue_is = h.queue_is;
        blocked_are = h.blocked_are;
        receives_are = placed_again
            ∙ ap (again (tickets place)) h.receives_are
            ∙ sym (some_again (tickets place) (map bare s.entries))
            ∙ ap (map some_entry) (ap (again (tickets place)) (sym (bare_noticed f (tickets place) s.entries))
            ∙ sym (bare_again (tickets place) (with_receiver_notice f (tickets place) s.entries)));
      }

      -- no other receive is at its place
      pub others_elsewhere : (o : Opening) (log : Log T A) → Represents o log s
          → All (λ q. q ≢ place) (places (without_place place c.receives))
      others_elsewhere o log represents =
          let t = tickets place in
          let in_log : map placed c.receives ≡ map some_entry (entries o log) = h.receives_are
          ∙ ap (map some_entry) represents.entries_are in
          let gone : entry_of t (without_ticket t (entries o log)) ≡ None =
          left_out (next_ticket o log) t (entries o log) (entries_apart o log represents.run) in
          let none : option_map placed (receive_at place (without_place place c.receives)) ≡ None =
          sym (placed_entry events tickets place (without_place place c.receives)
          (without_all (IsAlone events tickets place) place c.receives alone))
          ∙ ap (entry_of t) (placed_without events tickets place c.receives alone ∙ ap (without_ticket t) in_log
          ∙ sym (some_without t (entries o log)))
          ∙ some_entry_of t (without_ticket t (entries o log)) ∙ ap (option_map some_entry) gone in
          absent place (without_place place c.receives)
          (none_mapped placed (receive_at place (without_place place c.receives)) none)

    -- a receive parks
    pub mirror_parked : (s : Channel T (Unit {0})) (c : State) (place : ℕ) (kind : Kind) → Mirrors events tickets s c
        → All (λ q. q ≢ place) c.blocked → All (λ r. r.place ≢ place) c.receives
        → Mirrors events (with_ticket place s.next_ticket tickets)
        (with_peak (s.entries ++ new_receiver s.next_ticket kind tt ∷ []) (record s { next_ticket = s.next_ticket + 1 }))
        (with_parked kind place c)
    mirror_parked s c place kind h blocked others =
        let new : ParkedReceive = record { place = place; kind = kind; status = status.Waiting } in
        let entry : Entry T (Notice (Unit {0})) = new_receiver s.next_ticket kind tt in
        let last : ℕ → LogEntry (Option T) = λ t. record { ticket = t; kind = kind; mark = mark.Waiting; notice = tt } in
        let own_ticket = ticketed_itself place s.next_ticket tickets in
        record {
          capacity_is = h.capacity_is;
          senders_are = h.senders_are;
          receivers_are = h.receivers_are;
          queue_is = h.queue_is;
          blocked_are = offers_kept events place s.next_ticket tickets c.blocked blocked ∙ h.blocked_are;
          receives_are = map_push (entry_for events (with_ticket place s.next_ticket tickets)) c.receives new
              ∙ ap (λ l. l ++ entry_for events (with_ticket place s.next_ticket tickets) new ∷ [])
              (entries_kept events place s.next_ticket tickets c.receives others ∙ h.receives_are)
              ∙ ap (λ t. map some_entry (map bare s.entries) ++ last t ∷ []) own_ticket
              ∙ sym (ap (map some_entry) (map_push bare s.entries entry) ∙ map_push some_entry (map bare s.entries) (bare entry));
        }
