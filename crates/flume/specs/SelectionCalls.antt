-- The waits of a selector: what becomes of its arms, and which answer that leads to.
use Rattle.std.specs.Prelude.{◌≡◌, ℕ, Bool, true, false, Option, None, Some}
use Rattle.std.specs.Prelude.{Result, Ok, Err}
use Rattle.flume_core.specs.declared.error.NoMemory.{NoMemory}
use Rattle.flume_core.specs.declared.error.SelectError.{SelectError}
use Rattle.flume_core.specs.declared.error.SelectError.TheVariants as select
use Rattle.flume_calls.specs.declared.gates.select.ArmNext.{ArmNext}
use Rattle.flume_calls.specs.SelectGates.{TriedSelection, WholeSelection}
use Rattle.flume_deadline.specs.declared.Deadline.{Deadline}
use Rattle.flume.specs.GateSteps.{WaitsUpTo}
use Rattle.flume.specs.Selections.{first_arm}

module _ {L : Type 0} where
  -- making what a selection waits on leaves its arms as they are
  abbrev pub LeavesArms : L → L → Bool → Type 0
  LeavesArms old new made = new ≡ old

  -- so does a wait up to the deadline
  abbrev pub WaitsForArms : Deadline → L → L → Bool → Type 0
  WaitsForArms deadline old new expired = (new ≡ old) × WaitsUpTo deadline deadline expired

module _ {L : Type 0} (turns : Bool → L → ℕ → L → ArmNext → Type 0) (count start : ℕ) where
  -- the arms are tried: each has one turn that may not park it, up to the first that needn't wait
  abbrev pub TriesArms : L → L → Result (Option ℕ) NoMemory → Type 0
  TriesArms = TriedSelection (turns false) count (first_arm count start)

  -- the arms are started, and waited for up to the deadline
  abbrev pub AwaitsArms : (L → ℕ → L → Type 0) → Deadline → L → L → Result ℕ SelectError → Type 0
  AwaitsArms withdraws deadline = WholeSelection LeavesArms (turns true) (WaitsForArms deadline)
      withdraws count (first_arm count start)

module _ {L : Type 0} (turns : Bool → L → ℕ → L → ArmNext → Type 0)
    (withdraws : L → ℕ → L → Type 0) (count start : ℕ) where
  -- A wait for these arms, up to this deadline, and the arm that completed: a try, and if each arm
  -- would have to wait, they are started and waited for.
  pub data Races (deadline : Deadline) (old new : L) : Result ℕ SelectError → Type 0 where
    AtOnce : {arm : ℕ} → TriesArms turns count start old new (Ok (Some arm))
        → Races deadline old new (Ok arm)
    Refused : TriesArms turns count start old new (Err (record {}))
        → Races deadline old new (Err select.NoMemory)
    Awaited : {tried : L} {result : Result ℕ SelectError}
        → TriesArms turns count start old tried (Ok None)
        → AwaitsArms turns count start withdraws deadline tried new result
        → Races deadline old new result

module _ {L V : Type 0} (turns : Bool → L → ℕ → L → ArmNext → Type 0)
    (answers : L → ℕ → V → Type 0) (count start : ℕ) where
  -- A try of a selector with these arms: the value is what the mapper of the arm that completed
  -- answers to its result, and there is none if each arm would have to wait.
  pub data Tries (old : L) : Result (Option V) NoMemory → Type 0 where
    EachWaits : {tried : L} → TriesArms turns count start old tried (Ok None)
        → Tries old (Ok None)
    Completed : {tried : L} {arm : ℕ} {value : V}
        → TriesArms turns count start old tried (Ok (Some arm)) → answers tried arm value
        → Tries old (Ok (Some value))
    Refused : {tried : L} → TriesArms turns count start old tried (Err (record {}))
        → Tries old (Err (record {}))

module _ {L V : Type 0} (turns : Bool → L → ℕ → L → ArmNext → Type 0)
    (withdraws : L → ℕ → L → Type 0) (answers : L → ℕ → V → Type 0) (count start : ℕ) where
  -- A wait of a selector with these arms, up to this deadline: a try, and if each arm would have to
  -- wait, they are started and waited for.
  pub data Selects (deadline : Deadline) (old : L) : Result V SelectError → Type 0 where
    AtOnce : {value : V} → Tries turns answers count start old (Ok (Some value))
        → Selects deadline old (Ok value)
    Refused : Tries turns answers count start old (Err (record {}))
        → Selects deadline old (Err select.NoMemory)
    Won : {tried new : L} {arm : ℕ} {value : V} → TriesArms turns count start old tried (Ok None)
        → AwaitsArms turns count start withdraws deadline tried new (Ok arm)
        → answers new arm value → Selects deadline old (Ok value)
    Failed : {tried new : L} {error : SelectError}
        → TriesArms turns count start old tried (Ok None)
        → AwaitsArms turns count start withdraws deadline tried new (Err error)
        → Selects deadline old (Err error)

-- the result of a wait as one of a wait with a deadline
abbrev pub wait_as_timed : {V : Type 0} → Result V NoMemory → Result V SelectError
wait_as_timed (Ok value) = Ok value
wait_as_timed (Err error) = Err select.NoMemory
