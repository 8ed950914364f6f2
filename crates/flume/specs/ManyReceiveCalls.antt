-- Receives of many messages, as their callers see them.
use Rattle.std.specs.Prelude.{◌≡◌, ℕ, ◌≤◌, List, ◌++◌, length}
use Rattle.flume_calls.specs.declared.calls.receive.RecvNext.{RecvNext}
use Rattle.flume_calls.specs.declared.calls.receive.RecvNext.TheVariants.{Done}
use Rattle.flume_calls.specs.ManyReceives.{with_more}

module _ {T : Type 0} where
  -- so many messages came, and are behind what the list held before
  pub record Appends (most : ℕ) (before after : List T) (count : ℕ) : Type 0 where
    pub messages : List T
    pub items : after ≡ before ++ messages
    pub number : length messages ≡ count
    pub at_most : count ≤ most
    pub some : count ≡ 0 → most ≡ 0

  -- the answer is one of a turn of this kind, but for how many came
  pub record AnswersMany (answers : RecvNext T → Type 0) (next : RecvNext ℕ) : Type 0 where
    pub first : RecvNext T
    pub more : ℕ
    pub answered : answers first
    pub next_is : next ≡ with_more more first

  -- the call hasn't ended
  abbrev pub IsntDone : RecvNext T → Type 0
  IsntDone (Done result) = ⊥
  IsntDone next = Unit {0}
