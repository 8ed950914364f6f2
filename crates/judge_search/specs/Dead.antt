-- Configurations from which nothing completes an explanation, whichever items led there.
use Rattle.std.specs.Prelude.{◌≡◌, ◌≤◌, ℕ, ◌+◌, Bool, List, [], ◌∷◌, drop, length, Some}
use Rattle.std.specs.List.{Contains}
use Rattle.flume_model.specs.Log.{Opening}
use Rattle.judge_calls.specs.declared.event.Event.{Event}
use Rattle.judge_calls.specs.declared.event.Item.{Item}
use Rattle.judge_calls.specs.declared.event.Item.TheVariants.{Happens}
use Rattle.judge_calls.specs.Explanations.{events_in, Fits, IsExplanation}
use Rattle.judge_calls.specs.LateSteps.{AreLate}
use Rattle.judge_search.specs.declared.choice.Choice.{Choice}
use Rattle.judge_search.specs.declared.choice.Choice.TheVariants.{TakeEvent, MakeStep}
use Rattle.judge_search.specs.declared.configuration.OpenCall.{OpenCall}
use Rattle.judge_search.specs.Configurations.{State, event_at, thread_at}
use Rattle.judge_search.specs.Agreement.{Agrees}
use Rattle.judge_search.specs.Moves.{IsMove}

module _ {T A : Type 0} where
  -- items, the oldest first, after others, the newest first
  abbrev pub onto : List (Item T A) → List (Item T A) → List (Item T A)
  onto [] past = past
  onto (item ∷ items) past = onto items (item ∷ past)

module _ {T A : Type 0} (equal : T → T → Bool) (events : List (Event T A)) where
  -- after `past` these items, with late steps, complete an explanation of the events from a place
  pub record Completes (opening : Opening) (past : List (Item T A)) (place : ℕ)
      (items : List (Item T A)) : Type 0 where
    pub events_are : events_in items ≡ drop place events
    pub late_steps : AreLate items
    pub explains : IsExplanation equal opening (onto items past)

  -- no items complete an explanation after those that the configuration agrees with
  abbrev pub IsDeadEnd : ℕ → State → Type 0
  IsDeadEnd place c = (opening : Opening) (past items : List (Item T A))
      → Agrees equal events opening past (drop place events) c → Completes opening past place items
      → ⊥

  -- no items do that are at most this many
  abbrev pub IsDeadEndWithin : ℕ → ℕ → State → Type 0
  IsDeadEndWithin n place c = (opening : Opening) (past items : List (Item T A)) → length items ≤ n
      → Agrees equal events opening past (drop place events) c → Completes opening past place items
      → ⊥

  -- the item is one of this choice: an event, or a step of this open call
  abbrev pub IsItemOf : State → List (Item T A) → Choice → Item T A → Type 0
  IsItemOf c past TakeEvent item = (event : Event T A) × (item ≡ Happens event)
  IsItemOf c past (MakeStep call other refused) item = (t : ℕ) × Contains c.calls call
      × (thread_at events call.place ≡ Some t) × IsMove past t other refused item

  -- what may come next is among these choices, unless fewer items complete an explanation
  abbrev pub CoverNext : ℕ → State → List Choice → Type 0
  CoverNext place c choices = (opening : Opening) (past : List (Item T A)) (item : Item T A)
      (items : List (Item T A)) → Agrees equal events opening past (drop place events) c
      → IsDeadEndWithin (length items) place c → Completes opening past place (item ∷ items)
      → (choice : Choice) × Contains choices choice × IsItemOf c past choice item

  -- nothing of this choice may come next, unless fewer items complete an explanation
  abbrev pub IsSpent : ℕ → State → Choice → Type 0
  IsSpent place c choice = (opening : Opening) (past : List (Item T A)) (item : Item T A)
      (items : List (Item T A)) → Agrees equal events opening past (drop place events) c
      → IsDeadEndWithin (length items) place c → Completes opening past place (item ∷ items)
      → IsItemOf c past choice item → ⊥

  -- nothing of this choice may come next, unless fewer items complete an explanation from there
  abbrev pub LeadsOnly : ℕ → State → Choice → ℕ → State → Type 0
  LeadsOnly place c choice at new = (opening : Opening) (past : List (Item T A)) (item : Item T A)
      (items : List (Item T A)) → Agrees equal events opening past (drop place events) c
      → IsDeadEndWithin (length items) at new → Completes opening past place (item ∷ items)
      → IsItemOf c past choice item → ⊥

  -- the next event leads to items that agree with the new configuration
  abbrev pub EventLeads : ℕ → State → State → Type 0
  EventLeads place c new = (opening : Opening) (past : List (Item T A)) (event : Event T A)
      → Agrees equal events opening past (drop place events) c → event_at events place ≡ Some event
      → Fits equal past (Happens event)
      → Agrees equal events opening (Happens event ∷ past) (drop (place + 1) events) new

  -- the next event can't come now
  abbrev pub EventWaits : ℕ → State → Type 0
  EventWaits place c = (opening : Opening) (past : List (Item T A)) (event : Event T A)
      → Agrees equal events opening past (drop place events) c → event_at events place ≡ Some event
      → Fits equal past (Happens event) → ⊥

-- the choices have each step of each of these open calls
abbrev pub AreSteps : List Choice → List OpenCall → Type 0
AreSteps choices calls = (call : OpenCall) (other refused : Bool) → Contains calls call
    → Contains choices (MakeStep call other refused)
