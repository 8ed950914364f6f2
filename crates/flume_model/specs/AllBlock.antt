-- Channels all of whose parked receivers block.
use Rattle.std.specs.Prelude.{◌≡◌, ℕ, ◌≤◌, Bool, true, Option, Some, None}
use Rattle.std.specs.List.{All}
use Rattle.flume_model.specs.declared.step.Step.{Step}
use Rattle.flume_model.specs.declared.step.Step.TheVariants.{Recv}
use Rattle.flume_model.specs.Log.{Log}
use Rattle.flume_model.specs.WaitLaws.{is_block}

module _ {T : Type 0} where
  -- whether a receiver that parks by this step blocks; other steps park none
  abbrev pub parks_blocking : Step T → Bool
  parks_blocking (Recv kind) = is_block kind
  parks_blocking _ = true

module _ {T A : Type 0} where
  -- each receive was of the kind that blocks, so all receivers that parked do
  abbrev pub OnlyBlockingReceivers : Log T A → Type 0
  OnlyBlockingReceivers log = All (λ p. parks_blocking p.0 ≡ true) log

-- at most this capacity; no bound if there is none
abbrev pub IsAtMostCapacity : Option ℕ → ℕ → Type 0
IsAtMostCapacity None n = Unit {0}
IsAtMostCapacity (Some capacity) n = n ≤ capacity
