-- What a search knows: configurations at places, and how many events are explained.
use Rattle.std.specs.Prelude.{◌≡◌, ◌≤◌, ◌<◌, ℕ, ◌+◌, Bool, List, length, take}
use Rattle.flume_model.specs.Log.{Opening}
use Rattle.judge_calls.specs.declared.event.Event.{Event}
use Rattle.judge_calls.specs.Explanations.{events_in, IsExplained}
use Rattle.judge_search.specs.declared.table.ConfigurationAt.{ConfigurationAt}
use Rattle.judge_search.specs.declared.replay.Replay.{Replay}
use Rattle.judge_search.specs.Configurations.{State}

-- a configuration at a place, as one that is remembered
abbrev pub configuration_at : {A : Type 0} → ℕ → State → ConfigurationAt A
configuration_at place c = record { configuration = c; place = place }

module _ {T A : Type 0} where
  -- the items so far have the events that were taken
  abbrev pub HasTaken : List (Event T A) → Replay T A → Type 0
  HasTaken events replay = events_in replay.items.items ≡ take replay.place events

  -- this many of the events are explained
  pub record AreExplained (equal : T → T → Bool) (opening : Opening) (events : List (Event T A))
      (count : ℕ) : Type 0 where
    pub within : count ≤ length events
    pub explained : IsExplained equal opening (take count events)

  -- this many of the events are explained, and with the next one they aren't
  pub record BreaksAfter (equal : T → T → Bool) (opening : Opening) (events : List (Event T A))
      (count : ℕ) : Type 0 where
    pub is_within : count < length events
    pub before : IsExplained equal opening (take count events)
    pub not_with_next : IsExplained equal opening (take (count + 1) events) → ⊥

  -- this many of the events are explained, and all of them aren't
  pub record UnexplainedAfter (equal : T → T → Bool) (opening : Opening)
      (events : List (Event T A)) (count : ℕ) : Type 0 where
    pub is_within : count < length events
    pub before : IsExplained equal opening (take count events)
    pub not_all : IsExplained equal opening events → ⊥
