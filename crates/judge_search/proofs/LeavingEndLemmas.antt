-- An end that leaves, by the places of calls and by tickets.
use Rattle.std.proofs.Common.{◌≡◌, ◌+◌, ◌==◌, ℕ, Bool, true, false, not, ◌&&◌, if◌then◌else◌, ◌∙◌, sym, ap, ap₂, refl, subst, subst₂, List}
use Rattle.std.proofs.Common.{[], ◌∷◌, map}
use Rattle.std.specs.List.{All}
use Rattle.std.proofs.lemmas.List.Elements.{All-nil}
use Rattle.flume_model.specs.declared.step.Kind.{Kind}
use Rattle.flume_model.specs.Entries.{all_woken}
use Rattle.flume_model.specs.Limits.{is_closed}
use Rattle.flume_model.specs.Parked.{same_notice}
use Rattle.flume_state.specs.Notices.{due_now}
use Rattle.flume_state.specs.State.{State as Channel, bare, with_nothing_left}
use Rattle.flume_state.specs.Effects.{after_end_dropped, with_all_due}
use Rattle.flume_core.proofs.BareEntryLemmas.{bare_all_woken}
use Rattle.judge_calls.specs.declared.event.Event.{Event}
use Rattle.judge_search.specs.declared.place_reply.PlaceReply.TheVariants as reply
use Rattle.judge_search.specs.declared.configuration.ParkedReceive.{ParkedReceive}
use Rattle.judge_search.specs.declared.configuration.Status.{Status}
use Rattle.judge_search.specs.declared.configuration.Status.TheVariants.{Waiting, Woken, Filled}
use Rattle.judge_search.specs.declared.place_reply.PlaceReply.{PlaceReply}
use Rattle.judge_search.specs.Configurations.{State}
use Rattle.judge_search.specs.Receives.{waits, with_status}
use Rattle.judge_search.specs.ByPlaces.{closed_now, end_dropped, woken_if_waiting}
use Rattle.judge_search.specs.Mirrors.{Mirrors, entry_for, some_entry}
use Rattle.judge_search.proofs.MoveAnswers.{IsPlaceAfter}
use Rattle.judge_search.proofs.MoveAnswerLemmas.{IsNew}
use Rattle.judge_search.proofs.MoveCaseLemmas.{places_left, receives_stay}
use Rattle.judge_search.proofs.RenamingLemmas.{some_all_woken}

-- a receive that is woken keeps its place
woken_place : (r : ParkedReceive) → (woken_if_waiting r).place ≡ r.place
woken_place r = by_waits (waits r.status)
  where
    by_waits : (b : Bool) → (if b then with_status Woken r else r).place ≡ r.place
    by_waits true = refl
    by_waits false = refl

-- receives that are woken keep their places
woken_places : (rs : List ParkedReceive) → map (λ r. r.place) (map woken_if_waiting rs) ≡ map (λ r. r.place) rs
woken_places [] = refl
woken_places (r ∷ rs) = ap₂ (λ p l. p ∷ l) (woken_place r) (woken_places rs)

-- the blocked sends that are left once an end left
pub blocked_end_dropped : (reply_by_place : PlaceReply) (place : ℕ) (was : Bool) (c : State) → IsNew place c
    → All (IsPlaceAfter reply.Pending reply_by_place place c.blocked) (end_dropped was c).blocked
blocked_end_dropped reply_by_place place was c new = by_cases (c.senders + c.receivers == 0) (not was && closed_now c)
  where
    by_cases : (gone closes : Bool) → All (IsPlaceAfter reply.Pending reply_by_place place c.blocked)
        (if gone then record c { queue = []; blocked = []; receives = [] }
        else (if closes then record c { receives = map woken_if_waiting c.receives } else c)).blocked
    by_cases true closes = All-nil (IsPlaceAfter reply.Pending reply_by_place place c.blocked)
    by_cases false true = places_left reply_by_place place c.blocked new.not_blocked
    by_cases false false = places_left reply_by_place place c.blocked new.not_blocked

-- the parked receives
pub receives_end_dropped : (reply_by_place : PlaceReply) (place : ℕ) (was : Bool) (c : State) → IsNew place c
    → All (IsPlaceAfter reply.Parked reply_by_place place (map (λ r. r.place) c.receives)) (map (λ r. r.place) (end_dropped was c).receives)
receives_end_dropped reply_by_place place was c new = by_cases (c.senders + c.receivers == 0) (not was && closed_now c)
  where
    by_cases : (gone closes : Bool) → All (IsPlaceAfter reply.Parked reply_by_place place (map (λ r. r.place) c.receives))
        (map (λ r. r.place) (if gone then record c { queue = []; blocked = []; receives = [] }
        else (if closes then record c { receives = map woken_if_waiting c.receives } else c)).receives)
    by_cases true closes = All-nil (IsPlaceAfter reply.Parked reply_by_place place (map (λ r. r.place) c.receives))
    by_cases false true =
        subst (All (IsPlaceAfter reply.Parked reply_by_place place (map (λ r. r.place) c.receives))) (sym (woken_places c.receives))
        (receives_stay reply_by_place place c.receives new.not_parked)
    by_cases false false = receives_stay reply_by_place place c.receives new.not_parked

module _ {T A : Type 0} (events : List (Event T A)) (tickets : ℕ → ℕ) where
  -- all who wait are woken, by places as by tickets
  placed_woken : (rs : List ParkedReceive)
      → map (entry_for events tickets) (map woken_if_waiting rs) ≡ all_woken same_notice (map (entry_for events tickets) rs)
  placed_woken [] = refl
  placed_woken (r ∷ rs) = step r.status r.kind r.place (placed_woken rs)
    where
      step : (s : Status) (k : Kind) (p : ℕ)
          → map (entry_for events tickets) (map woken_if_waiting rs) ≡ all_woken same_notice (map (entry_for events tickets) rs)
          → map (entry_for events tickets) (map woken_if_waiting (record { place = p; kind = k; status = s } ∷ rs))
          ≡ all_woken same_notice (map (entry_for events tickets) (record { place = p; kind = k; status = s } ∷ rs))
      step Waiting k p rest = ap (λ l. entry_for events tickets (record { place = p; kind = k; status = Woken }) ∷ l) rest
      step Woken k p rest = ap (λ l. entry_for events tickets (record { place = p; kind = k; status = Woken }) ∷ l) rest
      step (Filled q) k p rest = ap (λ l. entry_for events tickets (record { place = p; kind = k; status = Filled q }) ∷ l) rest

  -- an end left, which is counted no more
  pub end_dropped_mirrors : (was : Bool) (s : Channel T (Unit {0})) (c : State) → Mirrors events tickets s c
      → Mirrors events tickets (after_end_dropped (not was) s) (end_dropped was c)
  end_dropped_mirrors was s c m =
      subst₂ (λ gone closes. Mirrors events tickets (after_end_dropped (not was) s) (ended gone closes))
      (sym (ap₂ (λ n k. n + k == 0) m.senders_are m.receivers_are))
      (sym (ap₂ (λ n k. not was && is_closed n k) m.senders_are m.receivers_are))
      (by_cases (s.senders + s.receivers == 0) (not was && is_closed s.senders s.receivers))
    where
      ended : Bool → Bool → State
      ended gone closes = if gone then record c { queue = []; blocked = []; receives = [] }
          else (if closes then record c { receives = map woken_if_waiting c.receives } else c)

      ended_state : Bool → Bool → Channel T (Unit {0})
      ended_state gone closes = if gone then with_nothing_left s
          else (if closes then record s { sends = with_all_due s.blocked s.sends; entries = all_woken due_now s.entries } else s)

      by_cases : (gone closes : Bool) → Mirrors events tickets (ended_state gone closes) (ended gone closes)
      by_cases true closes = record {
        capacity_is = m.capacity_is;
        senders_are = m.senders_are;
        receivers_are = m.receivers_are;
        queue_is = refl;
        blocked_are = refl;
        receives_are = refl;
      }
      by_cases false true = record {
        capacity_is = m.capacity_is;
        senders_are = m.senders_are;
        receivers_are = m.receivers_are;
        queue_is = m.queue_is;
        blocked_are = m.blocked_are;
        receives_are = placed_woken c.receives ∙ ap (all_woken same_notice) m.receives_are
            ∙ sym (some_all_woken (map bare s.entries)) ∙ ap (map some_entry) (sym (bare_all_woken due_now s.entries));
      }
      by_cases false false = m
