-- What a wake round leaves of a configuration mirrors what it leaves of a state.
use Rattle.std.proofs.Common.{◌≡◌, ℕ, List, [], ◌∷◌, map, Option, Some, None, refl, sym, ap, ap₂, ◌∙◌}
use Rattle.std.specs.Option.{is_some}
use Rattle.flume_model.specs.declared.step.Kind.{Kind}
use Rattle.flume_model.specs.declared.step.Kind.TheVariants.{Block, Plain, Stream, Arm}
use Rattle.flume_model.specs.Entries.{round_fills, round_for, round_for_fills}
use Rattle.flume_model.specs.Parked.{LogEntry, same_notice}
use Rattle.flume_state.specs.Notices.{due_now}
use Rattle.flume_state.specs.Receivers.{after_fill}
use Rattle.flume_state.specs.State.{State as Channel, bare}
use Rattle.flume_state.specs.Effects.{after_wake_round}
use Rattle.flume_core.proofs.BareEntryLemmas.{bare_round_for, bare_round_for_fills}
use Rattle.judge_calls.specs.declared.event.Event.{Event}
use Rattle.judge_search.specs.declared.configuration.ParkedReceive.{ParkedReceive}
use Rattle.judge_search.specs.declared.configuration.Status.{Status}
use Rattle.judge_search.specs.declared.configuration.Status.TheVariants.{Waiting, Woken, Filled}
use Rattle.judge_search.specs.Configurations.{State, message_at}
use Rattle.judge_search.specs.Receives.{round_fills_one}
use Rattle.judge_search.specs.ByPlaces.{round_with, fills_with, queue_after_round, wake}
use Rattle.judge_search.specs.Mirrors.{Mirrors, entry_for, some_entry}
use Rattle.judge_search.proofs.PlacingLemmas.{placed_round}
use Rattle.judge_search.proofs.RenamingLemmas.{some_round_for, some_round_for_fills}

-- what is left of the queue of a configuration, told by other things
pub left_mapped : {X : Type 0} (f : ℕ → X) (filled : Option ℕ) (queue : List ℕ)
    → map f (queue_after_round (is_some filled) queue) ≡ after_fill filled (map f queue)
left_mapped f None queue = refl
left_mapped f (Some t) [] = refl
left_mapped f (Some t) (p ∷ queue) = refl

-- what is left of the queue of a state, told by other things
pub fill_mapped : {X Y : Type 0} (f : X → Y) (filled : Option ℕ) (queue : List X)
    → map f (after_fill filled queue) ≡ after_fill filled (map f queue)
fill_mapped f None queue = refl
fill_mapped f (Some t) [] = refl
fill_mapped f (Some t) (x ∷ queue) = refl

module _ {T A : Type 0} (events : List (Event T A)) (tickets : ℕ → ℕ) where
  -- a parked receive as an entry
  abbrev placed : ParkedReceive → LogEntry (Option T)
  placed r = entry_for events tickets r

  -- a parked receive by its fields
  abbrev parked : ℕ → Kind → Status → ParkedReceive
  parked p k s = record { place = p; kind = k; status = s }

  -- whether a round fills one
  pub placed_fills : (rs : List ParkedReceive) → is_some (round_fills (map placed rs)) ≡ round_fills_one rs
  placed_fills [] = refl
  placed_fills (r ∷ rs) = step r.status r.kind r.place (placed_fills rs)
    where
      step : (s : Status) (k : Kind) (p : ℕ) → is_some (round_fills (map placed rs)) ≡ round_fills_one rs
          → is_some (round_fills (map placed (parked p k s ∷ rs))) ≡ round_fills_one (parked p k s ∷ rs)
      step Waiting Stream p rest = rest
      step Waiting Block p rest = refl
      step Waiting Plain p rest = refl
      step Waiting Arm p rest = refl
      step Woken k p rest = rest
      step (Filled q) k p rest = rest

  -- whether a round fills one if this is the queue
  pub placed_fills_with : (queue : List ℕ) (rs : List ParkedReceive)
      → is_some (round_for_fills (map (message_at events) queue) (map placed rs)) ≡ fills_with queue rs
  placed_fills_with [] rs = refl
  placed_fills_with (front ∷ queue) rs = placed_fills rs

  -- a round if this is the queue
  pub placed_round_with : (queue : List ℕ) (rs : List ParkedReceive)
      → map placed (round_with queue rs) ≡ round_for same_notice (map (message_at events) queue) (map placed rs)
  placed_round_with [] rs = refl
  placed_round_with (front ∷ queue) rs = placed_round events tickets front rs

  -- whom a round fills, told by the state
  pub mirrored_fills : (s : Channel T (Unit {0})) (c : State) → Mirrors events tickets s c
      → round_for_fills (map (message_at events) c.queue) (map placed c.receives) ≡ round_for_fills s.queue s.entries
  mirrored_fills s c h =
      ap₂ round_for_fills h.queue_is h.receives_are ∙ some_round_for_fills s.queue (map bare s.entries)
      ∙ bare_round_for_fills s.queue s.entries

  -- the configuration after a wake round mirrors the state after it
  pub mirror_wake : (s : Channel T (Unit {0})) (c : State) → Mirrors events tickets s c
      → Mirrors events tickets (after_wake_round s) (wake c)
  mirror_wake s c h = record {
    capacity_is = h.capacity_is;
    senders_are = h.senders_are;
    receivers_are = h.receivers_are;
    queue_is = ap (λ b. map (message_at events) (queue_after_round b c.queue)) (sym (placed_fills_with c.queue c.receives))
        ∙ left_mapped (message_at events) _ c.queue ∙ ap₂ after_fill (mirrored_fills s c h) h.queue_is
        ∙ sym (fill_mapped Some _ s.queue);
    blocked_are = h.blocked_are;
    receives_are = placed_round_with c.queue c.receives ∙ ap₂ (round_for same_notice) h.queue_is h.receives_are
        ∙ sym (some_round_for s.queue (map bare s.entries)) ∙ sym (ap (map some_entry) (bare_round_for due_now s.queue s.entries));
  }
