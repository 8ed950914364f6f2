-- The events of the items of a replay.
use Rattle.std.proofs.Common.{◌≡◌, ◌<◌, ◌≤◌, ℕ, ◌+◌, List, [], ◌∷◌, ◌++◌, refl, sym, ap, ◌∙◌, take, length, get_or, arith}
use Rattle.std.proofs.lemmas.List.{take_more, take_all, append-nil}
use Rattle.flume_model.specs.declared.step.Step.{Step}
use Rattle.flume_model.specs.declared.step.Reply.{Reply}
use Rattle.judge_calls.specs.declared.event.Event.{Event}
use Rattle.judge_calls.specs.declared.event.Item.{Item}
use Rattle.judge_calls.specs.declared.event.Item.TheVariants.{Happens, Makes}
use Rattle.judge_calls.specs.Explanations.{events_in}

module _ {T A : Type 0} where
  -- the events of items and others
  events_append : (xs ys : List (Item T A)) → events_in (xs ++ ys) ≡ events_in xs ++ events_in ys
  events_append [] ys = refl
  events_append (Happens event ∷ xs) ys = ap (λ l. event ∷ l) (events_append xs ys)
  events_append (Makes t step reply ∷ xs) ys = events_append xs ys

  -- the next event is taken
  pub taken_event : (events : List (Event T A)) (place : ℕ) (event : Event T A) (items more : List (Item T A)) → place < length events
      → event ≡ get_or events place event → more ≡ items ++ Happens event ∷ [] → events_in items ≡ take place events
      → events_in more ≡ take (place + 1) events
  taken_event events place event items more within is pushed taken =
      ap events_in pushed ∙ events_append items (Happens event ∷ []) ∙ ap (λ l. l ++ event ∷ []) taken
      ∙ ap (λ e. take place events ++ e ∷ []) is ∙ sym (take_more events place event within)

  -- a step takes none
  pub taken_step : (taken : List (Event T A)) (t : ℕ) (step : Step T) (reply : Reply T A) (items more : List (Item T A))
      → more ≡ items ++ Makes t step reply ∷ [] → events_in items ≡ taken → events_in more ≡ taken
  taken_step taken t step reply items more pushed is =
      ap events_in pushed ∙ events_append items (Makes t step reply ∷ []) ∙ append-nil (events_in items) ∙ is

  -- all were taken
  pub taken_all : (events : List (Event T A)) (place : ℕ) (items : List (Item T A)) → place ≡ length events
      → events_in items ≡ take place events
      → events_in items ≡ events
  taken_all events place items at is = is ∙ ap (λ n. take n events) at ∙ take_all (length events) events within
    where
      within : length events ≤ length events
      within = omega arith
