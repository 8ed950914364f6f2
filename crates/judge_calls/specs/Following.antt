-- What a checker knows of the items so far: the open calls, and the channel after the steps.
use Rattle.std.specs.Prelude.{◌≡◌, ℕ, Bool, List, ◌∷◌}
use Rattle.std.specs.BTreeMap.{BTreeMap, get}
use Rattle.std.specs.Ordering.{nat_cmp}
use Rattle.flume_model.specs.Log.{Opening}
use Rattle.flume_model.specs.Replies.{IsRun}
use Rattle.flume_state.specs.State.{State}
use Rattle.flume_core.specs.Represents.{Represents}
use Rattle.judge_calls.specs.declared.call.Call.{Call}
use Rattle.judge_calls.specs.declared.event.Item.{Item}
use Rattle.judge_calls.specs.declared.stage.Stage.{Stage}
use Rattle.judge_calls.specs.Explanations.{open_call, steps_in, Fits}
use Rattle.judge_calls.specs.Descriptions.{Describes}

module _ {T A : Type 0} where
  -- the map has the calls that are open after these items, the newest first
  abbrev pub HasOpen : List (Item T A) → BTreeMap ℕ (Call T × Stage T A) → Type 0
  HasOpen past calls = (t : ℕ) → get nat_cmp calls t ≡ open_call past t

  -- these are the open calls and the state after the items, the newest first
  pub record LeadTo {S : Type 0} (opening : Opening) (past : List (Item T A))
      (calls : BTreeMap ℕ (Call T × Stage T A)) (s : State T S) : Type 0 where
    pub has : HasOpen past calls
    pub represents : Represents opening (steps_in past) s

  -- the item describes one that may come next, after which these are the open calls and the state
  pub record ComesNext {S : Type 0} (equal : T → T → Bool) (opening : Opening)
      (past : List (Item T A)) (item : Item T A) (calls : BTreeMap ℕ (Call T × Stage T A))
      (s : State T S) : Type 0 where
    pub own : Item T A
    pub describes : Describes equal item own
    pub fits : Fits equal past own
    pub leads : LeadTo opening (own ∷ past) calls s

  -- the item describes none that may come next
  abbrev pub NeverComesNext : (T → T → Bool) → Opening → List (Item T A) → Item T A → Type 0
  NeverComesNext equal opening past item = (own : Item T A) → Describes equal item own
      → Fits equal past own → IsRun opening (steps_in (own ∷ past)) → ⊥
