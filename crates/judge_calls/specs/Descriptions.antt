-- Items that describe an explanation.
use Rattle.std.specs.Prelude.{◌≡◌, ◌<◌, ◌+◌, ℕ, Bool, IsTrue, List, length, reverse, take}
use Rattle.std.specs.List.{AllZip}
use Rattle.flume_model.specs.Log.{Opening}
use Rattle.flume_model.specs.EqualSteps.{equal_steps}
use Rattle.flume_history.specs.Equal.{Equals}
use Rattle.judge_calls.specs.declared.event.Item.{Item}
use Rattle.judge_calls.specs.declared.event.Item.TheVariants.{Happens, Makes}
use Rattle.judge_calls.specs.Explanations.{IsExplanation}

module _ {T A : Type 0} (equal : T → T → Bool) where
  -- an item describes another: the same event, or an equal step and reply of the same thread
  abbrev pub Describes : Item T A → Item T A → Type 0
  Describes (Happens event) (Happens other) = event ≡ other
  Describes (Makes t step reply) (Makes u other own) =
      (t ≡ u) × IsTrue (equal_steps equal step other) × Equals equal reply own
  Describes _ _ = ⊥

  -- the items, the oldest first, describe an explanation
  abbrev pub DescribeExplanation : Opening → List (Item T A) → Type 0
  DescribeExplanation opening items = (past : List (Item T A))
      × AllZip Describes (reverse items) past × IsExplanation equal opening past

  -- the first this many items describe an explanation, and with the next one they don't
  pub record BreaksAt (opening : Opening) (items : List (Item T A)) (place : ℕ) : Type 0 where
    pub is_within : place < length items
    pub before : DescribeExplanation opening (take place items)
    pub not_with_next : DescribeExplanation opening (take (place + 1) items) → ⊥
