-- A selection through a gate: the order of the arms' turns, and the ways in which it ends.
use Rattle.std.specs.Prelude.{◌≡◌, ◌≢◌, ◌<◌, ◌==◌, ◌+◌, if◌then◌else◌, ℕ, Bool, true, false}
use Rattle.std.specs.Prelude.{Option, None, Some, Result, Ok, Err}
use Rattle.flume_core.specs.declared.error.SelectError.{SelectError}
use Rattle.flume_core.specs.declared.error.SelectError.TheVariants.{Timeout, NoMemory}
use Rattle.flume_core.specs.declared.error.NoMemory.{NoMemory as Refusal}
use Rattle.flume_calls.specs.declared.gates.select.ArmNext.{ArmNext}
use Rattle.flume_calls.specs.declared.gates.select.RoundEnd.{RoundEnd}

-- the arm after this one, in cyclic order
abbrev pub next_arm : (count arm : ℕ) → ℕ
next_arm count arm = if arm + 1 == count then 0 else arm + 1

module _ {G : Type 0} (turns : G → ℕ → G → ArmNext → Type 0) (count start : ℕ) where
  -- one turn of each of so many arms, from the start arm on to the `next`, and each of them waits
  pub data Waiting : G → (made next : ℕ) → G → Type 0 where
    NoTurn : {gate : G} → Waiting gate 0 start gate
    OneMore : {old between new : G} {made arm : ℕ} → Waiting old made arm between
        → turns between arm new ArmNext.Waits
        → Waiting old (made + 1) (next_arm count arm) new

  -- one turn of each arm, in cyclic order, up to the first that doesn't wait
  pub data IsRound (old new : G) : RoundEnd → Type 0 where
    AllWait : {next : ℕ} → Waiting old count next new → IsRound old new RoundEnd.AllWait
    Completed : {between : G} {before arm : ℕ} → before < count → Waiting old before arm between
        → turns between arm new ArmNext.Completed → IsRound old new (RoundEnd.Completed before arm)
    Refused : {between : G} {before arm : ℕ} → before < count → Waiting old before arm between
        → turns between arm new ArmNext.NoMemory → IsRound old new (RoundEnd.NoMemory before)

-- this holds of the arm that completed in the round
abbrev pub IfCompleted : (ℕ → Type 0) → RoundEnd → Type 0
IfCompleted is_done (RoundEnd.Completed before arm) = is_done arm
IfCompleted is_done _ = Unit {0}

module _ {G : Type 0} (withdraws : G → ℕ → G → Type 0) (count start : ℕ) where
  -- one withdrawal of each of so many arms, from the start arm on to the `next`, but the spared one
  pub data Withdraws (spared : Option ℕ) : G → (passed next : ℕ) → G → Type 0 where
    NoArm : {gate : G} → Withdraws spared gate 0 start gate
    OneMore : {old between new : G} {passed arm : ℕ} → Withdraws spared old passed arm between
        → spared ≢ Some arm → withdraws between arm new
        → Withdraws spared old (passed + 1) (next_arm count arm) new
    Spared : {old new : G} {passed arm : ℕ} → Withdraws spared old passed arm new
        → spared ≡ Some arm → Withdraws spared old (passed + 1) (next_arm count arm) new

  -- all of these started arms are withdrawn after a round, but the one that completed
  pub data EndsAfter (started : ℕ) : RoundEnd → G → G → Result ℕ SelectError → Type 0 where
    Expired : {old new : G} {next : ℕ} → Withdraws None old started next new
        → EndsAfter started RoundEnd.AllWait old new (Err Timeout)
    Won : {old new : G} {before arm next : ℕ} → Withdraws (Some arm) old started next new
        → EndsAfter started (RoundEnd.Completed before arm) old new (Ok arm)
    Refused : {old new : G} {before next : ℕ} → Withdraws None old started next new
        → EndsAfter started (RoundEnd.NoMemory before) old new (Err NoMemory)

module _ {G : Type 0} (turns : G → ℕ → G → ArmNext → Type 0) (waits : G → G → Bool → Type 0)
    (withdraws : G → ℕ → G → Type 0) (count start : ℕ) where
  -- a selection whose arms are all started: rounds, and waits between them; one at the deadline
  pub data StartedSelection : G → G → Result ℕ SelectError → Type 0 where
    Ended : {old polled new : G} {round : RoundEnd} {result : Result ℕ SelectError}
        → IsRound turns count start old polled round → round ≢ RoundEnd.AllWait
        → EndsAfter withdraws count start count round polled new result
        → StartedSelection old new result
    AtDeadline : {old polled waited last new : G} {round : RoundEnd} {result : Result ℕ SelectError}
        → IsRound turns count start old polled RoundEnd.AllWait → waits polled waited true
        → IsRound turns count start waited last round
        → EndsAfter withdraws count start count round last new result
        → StartedSelection old new result
    Again : {old polled waited new : G} {result : Result ℕ SelectError}
        → IsRound turns count start old polled RoundEnd.AllWait → waits polled waited false
        → StartedSelection waited new result → StartedSelection old new result

module _ {G : Type 0} (is_done : G → ℕ → Type 0) (count : ℕ) where
  -- this is one of the gate's arms, and it has completed
  pub record HasCompleted (gate : G) (arm : ℕ) : Type 0 where
    pub within : arm < count
    pub completed : is_done gate arm

module _ {G : Type 0} (makes : G → G → Bool → Type 0) (turns : G → ℕ → G → ArmNext → Type 0)
    (waits : G → G → Bool → Type 0) (withdraws : G → ℕ → G → Type 0) (count start : ℕ) where
  -- A selection, from its gate to the gate at the end and the result. If an arm completes or runs
  -- out of memory as it is started, those after it aren't started.
  pub data WholeSelection (old new : G) : Result ℕ SelectError → Type 0 where
    NoWaiter : makes old new false → WholeSelection old new (Err NoMemory)
    Won : {made won : G} {before arm next : ℕ} → makes old made true
        → IsRound turns count start made won (RoundEnd.Completed before arm)
        → Withdraws withdraws count start (Some arm) won before next new
        → WholeSelection old new (Ok arm)
    Refused : {made refused : G} {before next : ℕ} → makes old made true
        → IsRound turns count start made refused (RoundEnd.NoMemory before)
        → Withdraws withdraws count start None refused before next new
        → WholeSelection old new (Err NoMemory)
    Started : {made started : G} {result : Result ℕ SelectError} → makes old made true
        → IsRound turns count start made started RoundEnd.AllWait
        → StartedSelection turns waits withdraws count start started new result
        → WholeSelection old new result

module _ {G : Type 0} (turns : G → ℕ → G → ArmNext → Type 0) (count start : ℕ) where
  -- a selection that only tries its arms: one round of turns that may not park
  pub data TriedSelection (old new : G) : Result (Option ℕ) Refusal → Type 0 where
    NoneCompletes : IsRound turns count start old new RoundEnd.AllWait
        → TriedSelection old new (Ok None)
    Won : {before arm : ℕ} → IsRound turns count start old new (RoundEnd.Completed before arm)
        → TriedSelection old new (Ok (Some arm))
    Refused : {before : ℕ} → IsRound turns count start old new (RoundEnd.NoMemory before)
        → TriedSelection old new (Err (record {}))
