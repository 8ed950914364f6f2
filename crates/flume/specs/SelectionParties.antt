-- What the parties of a selector's arms did by a wait.
use Rattle.std.specs.Prelude.{Option, Some, None, Result, Ok, Err}
use Rattle.flume_core.specs.declared.error.NoMemory.{NoMemory}
use Rattle.flume_core.specs.declared.error.SelectError.{SelectError}

-- `completes` says what all parties did if an arm completed, with this value; `stand_by` what they
-- did if none did
module _ {M V P : Type 0} (completes : M → V → P → Type 0) (stand_by : M → P → Type 0)
    (mappers : M) where
  -- by the result of a wait
  abbrev pub HasSelected : Result V SelectError → P → Type 0
  HasSelected (Ok value) parties = completes mappers value parties
  HasSelected (Err error) parties = stand_by mappers parties

  -- by the result of a try
  abbrev pub HasTriedArms : Result (Option V) NoMemory → P → Type 0
  HasTriedArms (Ok (Some value)) parties = completes mappers value parties
  HasTriedArms (Ok None) parties = stand_by mappers parties
  HasTriedArms (Err error) parties = stand_by mappers parties
