-- The events at places, and the calls of threads.
use Rattle.std.proofs.Common.{◌≡◌, ◌<◌, ◌≤◌, ℕ, zero, suc, ◌+◌, List, [], ◌∷◌, Some, None, refl, ap, ◌∙◌, drop, length, arith, get_or}
use Rattle.std.specs.List.{slice_get}
use Rattle.std.proofs.lemmas.Option.{slice_get_read, slice_get_past}
use Rattle.judge_calls.specs.declared.event.Event.{Event}
use Rattle.judge_search.specs.Configurations.{event_at}

module _ {T A : Type 0} where
  -- the event at a place, by `slice_get`
  pub event_at-slice_get : (events : List (Event T A)) (p : ℕ) → event_at events p ≡ slice_get events p
  event_at-slice_get [] p = refl
  event_at-slice_get (event ∷ events) zero = refl
  event_at-slice_get (event ∷ events) (suc p) = event_at-slice_get events p

  -- the event that was read at a place
  pub event_read : (events : List (Event T A)) (p : ℕ) (event : Event T A) → p < length events → event ≡ get_or events p event
      → event_at events p ≡ Some event
  event_read events p event within is = event_at-slice_get events p ∙ slice_get_read events (length events) p event refl within is

  -- no event is past the last
  pub event_past : (events : List (Event T A)) (p : ℕ) → length events ≤ p → event_at events p ≡ None
  event_past events p past = event_at-slice_get events p ∙ slice_get_past events p past

  -- the events from a place on begin with the event there
  pub events_from : (events : List (Event T A)) (p : ℕ) (event : Event T A) → event_at events p ≡ Some event
      → drop p events ≡ event ∷ drop (p + 1) events
  events_from [] p event is = absurd (let none : ⊥ = cc in none)
  events_from (first ∷ events) zero event is = let same : first ≡ event = cc in ap (λ e. e ∷ events) same
  events_from (first ∷ events) (suc p) event is =
      events_from events p event is ∙ ap (λ n. event ∷ drop n (first ∷ events)) (let more : suc (p + 1) ≡ suc p + 1 = omega arith in more)
