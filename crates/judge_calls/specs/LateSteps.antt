-- Explanations in which each step comes as late as it may.
use Rattle.std.specs.Prelude.{◌≡◌, ℕ, Bool, List, [], ◌∷◌, reverse}
use Rattle.flume_model.specs.Log.{Opening}
use Rattle.judge_calls.specs.declared.event.Event.{Event}
use Rattle.judge_calls.specs.declared.event.Event.TheVariants.{Begins, Returns}
use Rattle.judge_calls.specs.declared.event.Item.{Item}
use Rattle.judge_calls.specs.declared.event.Item.TheVariants.{Happens, Makes}
use Rattle.judge_calls.specs.Explanations.{events_in, IsExplanation}

module _ {T A : Type 0} where
  -- after a step of this thread another step comes next, or the thread returns
  abbrev pub IsFollowed : ℕ → List (Item T A) → Type 0
  IsFollowed t [] = ⊥
  IsFollowed t (Makes u step reply ∷ items) = Unit {0}
  IsFollowed t (Happens (Begins u call) ∷ items) = ⊥
  IsFollowed t (Happens (Returns u answer) ∷ items) = t ≡ u

  -- steps come only just before a return, and the last of them is of the call that returns
  abbrev pub AreLate : List (Item T A) → Type 0
  AreLate [] = Unit {0}
  AreLate (Happens event ∷ items) = AreLate items
  AreLate (Makes t step reply ∷ items) = IsFollowed t items × AreLate items

  -- the events have an explanation with such steps; `equal` compares messages
  abbrev pub IsExplainedLate : (T → T → Bool) → Opening → List (Event T A) → Type 0
  IsExplainedLate equal opening events = (items : List (Item T A))
      × (events_in items ≡ events) × IsExplanation equal opening (reverse items) × AreLate items
