-- What a level of configurations is known to lead to.
use Rattle.std.specs.Prelude.{◌≡◌, ◌≤◌, ◌<◌, ℕ, ◌+◌, Bool, List, ◌∷◌, ◌++◌, drop, length, take}
use Rattle.std.specs.List.{Contains}
use Rattle.flume_model.specs.Log.{Opening}
use Rattle.judge_calls.specs.declared.event.Event.{Event}
use Rattle.judge_calls.specs.declared.event.Item.{Item}
use Rattle.judge_search.specs.declared.choice.Choice.{Choice}
use Rattle.judge_search.specs.declared.table.ConfigurationAt.{ConfigurationAt}
use Rattle.judge_search.specs.Configurations.{State}
use Rattle.judge_search.specs.Agreement.{Agrees}
use Rattle.judge_search.specs.Dead.{Completes, IsDeadEnd, IsDeadEndWithin, IsItemOf}

-- the second list begins with the first one
abbrev pub Grows : {X : Type 0} → List X → List X → Type 0
Grows {X} before after = (more : List X) × (after ≡ before ++ more)

module _ {T A : Type 0} (equal : T → T → Bool) (events : List (Event T A)) where
  -- from none of these do items complete an explanation that are at most this many
  abbrev pub AreDeadWithin : ℕ → List (ConfigurationAt A) → Type 0
  AreDeadWithin n level = (d : ConfigurationAt A) → Contains level d
      → IsDeadEndWithin equal events n d.place d.configuration

  -- from none of these do any items
  abbrev pub AreDead : List (ConfigurationAt A) → Type 0
  AreDead level = (d : ConfigurationAt A) → Contains level d
      → IsDeadEnd equal events d.place d.configuration

  -- nothing of this choice comes next, with at most this many items after it
  abbrev pub IsSpentWithin : ℕ → ℕ → State → Choice → Type 0
  IsSpentWithin n place c choice = (opening : Opening) (past : List (Item T A)) (item : Item T A)
      (items : List (Item T A)) → length items ≤ n
      → Agrees equal events opening past (drop place events) c
      → Completes equal events opening past place (item ∷ items)
      → IsItemOf equal events c past choice item → ⊥

  -- what this choice leads to is in the level, or in the next one
  abbrev pub IsFollowed : (level next : List (ConfigurationAt A)) → ℕ → State → Choice → Type 0
  IsFollowed level next place c choice = (n : ℕ) → IsDeadEndWithin equal events n place c
      → AreDeadWithin n level → AreDead next → IsSpentWithin n place c choice

  -- what may come next leads into the level, or into the next one
  pub record IsExpanded (level next : List (ConfigurationAt A)) (d : ConfigurationAt A) : Type 0 where
    pub is_within : d.place < length events
    pub leads : (n : ℕ) → IsDeadEndWithin equal events n d.place d.configuration
        → AreDeadWithin n level → AreDead next
        → IsDeadEndWithin equal events (n + 1) d.place d.configuration

  -- of the first ones of the level
  abbrev pub AreExpanded : ℕ → (level next : List (ConfigurationAt A)) → Type 0
  AreExpanded count level next =
      (d : ConfigurationAt A) → Contains (take count level) d → IsExpanded level next d
