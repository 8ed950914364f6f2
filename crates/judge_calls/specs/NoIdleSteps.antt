-- Explanations in which each step comes late, and no step is idle.
use Rattle.std.specs.Prelude.{◌≡◌, Bool, List, [], ◌∷◌, reverse}
use Rattle.flume_model.specs.declared.step.Step.{Step}
use Rattle.flume_model.specs.declared.step.Reply.{Reply}
use Rattle.flume_model.specs.declared.step.Reply.TheVariants.{Waiting}
use Rattle.flume_model.specs.Log.{Log, Opening}
use Rattle.flume_model.specs.Entries.{waiting_count}
use Rattle.flume_model.specs.Parked.{entries}
use Rattle.judge_calls.specs.declared.event.Event.{Event}
use Rattle.judge_calls.specs.declared.event.Item.{Item}
use Rattle.judge_calls.specs.Explanations.{events_in, steps_in, IsExplanation}
use Rattle.judge_calls.specs.LateSteps.{AreLate}

module _ {T A : Type 0} where
  -- a step that changes nothing: answered `Waiting`, while as many receivers wait as before
  abbrev pub IsIdle : Opening → Log T A → Step T × Reply T A → Type 0
  IsIdle opening past p =
      (p.1 ≡ Waiting)
      × (waiting_count (entries opening (p ∷ past)) ≡ waiting_count (entries opening past))

  -- no step of the log is idle; the newest comes first
  abbrev pub NoneIsIdle : Opening → Log T A → Type 0
  NoneIsIdle opening [] = Unit {0}
  NoneIsIdle opening (p ∷ past) = (IsIdle opening past p → ⊥) × NoneIsIdle opening past

  -- an explanation whose steps come late, none of them idle; `equal` compares messages
  pub record IsExplainedWithoutIdle (equal : T → T → Bool) (opening : Opening)
      (events : List (Event T A))
      : Type 0 where
    pub items : List (Item T A)
    pub events_are : events_in items ≡ events
    pub explains : IsExplanation equal opening (reverse items)
    pub late : AreLate items
    pub no_idle : NoneIsIdle opening (steps_in (reverse items))
