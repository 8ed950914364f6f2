-- What a configuration and the state that it mirrors have alike: whether they are closed or full, and whether somebody waits.
use Rattle.std.proofs.Common.{◌≡◌, ℕ, Bool, ◌||◌, List, [], ◌∷◌, length, map, Option, Some, None, refl, sym, ◌∙◌, ap, ap₂}
use Rattle.std.proofs.lemmas.List.{length-map}
use Rattle.flume_model.specs.Limits.{is_closed, is_full}
use Rattle.flume_model.specs.Entries.{some_wait}
use Rattle.flume_state.specs.State.{State as Channel, bare}
use Rattle.flume_core.proofs.BareEntryLemmas.{bare_some_wait}
use Rattle.judge_calls.specs.declared.event.Event.{Event}
use Rattle.judge_search.specs.declared.configuration.ParkedReceive.{ParkedReceive}
use Rattle.judge_search.specs.declared.configuration.Status.{Status}
use Rattle.judge_search.specs.declared.configuration.Status.TheVariants.{Waiting, Woken, Filled}
use Rattle.judge_search.specs.Configurations.{State, message_at}
use Rattle.judge_search.specs.ByPlaces.{closed_now, full_now, some_waits}
use Rattle.judge_search.specs.Mirrors.{Mirrors, some_entry, entry_for}
use Rattle.judge_search.proofs.RenamingLemmas.{some_some_wait}

module _ {T A : Type 0} (events : List (Event T A)) where
  -- somebody waits by places as by tickets
  pub placed_some_wait : (tickets : ℕ → ℕ) (rs : List ParkedReceive) → some_wait (map (entry_for events tickets) rs) ≡ some_waits rs
  placed_some_wait tickets [] = refl
  placed_some_wait tickets (r ∷ rs) = step r.status (placed_some_wait tickets rs)
    where
      step : (s : Status) → some_wait (map (entry_for events tickets) rs) ≡ some_waits rs
          → some_wait (entry_for events tickets (record r { status = s }) ∷ map (entry_for events tickets) rs)
          ≡ some_waits (record r { status = s } ∷ rs)
      step Waiting rest = refl
      step Woken rest = rest
      step (Filled p) rest = rest

  module _ (tickets : ℕ → ℕ) (s : Channel T (Unit {0})) (c : State) (h : Mirrors events tickets s c) where
    pub closed_same : closed_now c ≡ is_closed s.senders s.receivers
    closed_same = ap₂ is_closed h.senders_are h.receivers_are

    pub length_same : length c.queue ≡ length s.queue
    length_same = sym (length-map c.queue (message_at events)) ∙ ap length h.queue_is ∙ length-map s.queue (λ m. Some m)

    pub full_same : full_now c ≡ is_full s.capacity (length s.queue)
    full_same = ap₂ is_full h.capacity_is length_same

    pub waits_same : some_waits c.receives ≡ some_wait s.entries
    waits_same =
        sym (placed_some_wait tickets c.receives) ∙ ap some_wait h.receives_are ∙ some_some_wait (map bare s.entries)
        ∙ bare_some_wait s.entries
