-- After a selection no arm has a message but the one that completed.
use Rattle.std.proofs.Common.{◌≢◌, ℕ, Bool, true, false, Option, Some, None, Result, Ok, Err, IsSome, IfSome, subst, sym}
use Rattle.flume_core.specs.declared.error.NoMemory.{NoMemory}
use Rattle.flume_core.specs.declared.error.SelectError.{SelectError}
use Rattle.flume_calls.specs.declared.gates.select.ArmNext.{ArmNext}
use Rattle.flume_calls.specs.declared.gates.select.ArmNext.TheVariants as next
use Rattle.flume_calls.specs.SelectGates as gate
use Rattle.flume_calls.specs.SelectGates.{Waiting, IsRound, Withdraws, EndsAfter, StartedSelection, WholeSelection, TriedSelection}
use Rattle.flume_deadline.specs.declared.Deadline.{Deadline}
use Rattle.flume.specs.IdleArms.{StayIdle}
use Rattle.flume.specs.SelectionCalls as call
use Rattle.flume.specs.SelectionParties.{HasTriedArms}
use Rattle.flume.specs.SelectionCalls.{LeavesArms, WaitsForArms, TriesArms, Races}

module _ {L : Type 0} (all_idle : L → Type 0) (others_idle : L → ℕ → Type 0) where
  -- what is idle by the result of a wait
  abbrev pub IdleBy : Result ℕ SelectError → L → Type 0
  IdleBy (Ok arm) new = others_idle new arm
  IdleBy (Err error) new = all_idle new

  -- by the result of a try
  abbrev pub IdleByTry : Result (Option ℕ) NoMemory → L → Type 0
  IdleByTry (Ok (Some arm)) new = others_idle new arm
  IdleByTry (Ok None) new = all_idle new
  IdleByTry (Err error) new = all_idle new

waits_on : next.Waits ≢ next.Completed
waits_on completed = let none : ⊥ = cc in none

refused_on : next.NoMemory ≢ next.Completed
refused_on completed = let none : ⊥ = cc in none

module _ {L M : Type 0} {mappers : L → M} {all_idle : L → Type 0} {others_idle : L → ℕ → Type 0}
    {turns : Bool → L → ℕ → L → ArmNext → Type 0} {withdraws : L → ℕ → L → Type 0}
    (kept : StayIdle mappers all_idle others_idle turns withdraws) (count start : ℕ) where
  -- all that had a turn wait
  waiting : (parks : Bool) {old new : L} {made arm : ℕ} → Waiting (turns parks) count start old made arm new → all_idle old → all_idle new
  waiting parks gate.NoTurn idle = idle
  waiting parks (gate.OneMore before turn) idle = kept.after_turn _ _ _ _ _ turn waits_on (waiting parks before idle)

  -- withdrawals leave all idle
  withdrawn : {spared : Option ℕ} {old new : L} {passed arm : ℕ} → Withdraws withdraws count start spared old passed arm new
      → all_idle old → all_idle new
  withdrawn gate.Withdraws.NoArm idle = idle
  withdrawn (gate.Withdraws.OneMore before other does) idle = kept.withdrawn _ _ _ does (withdrawn before idle)
  withdrawn (gate.Withdraws.Spared before same) idle = withdrawn before idle

  -- or all but one
  others_withdrawn : (one : ℕ) {spared : Option ℕ} {old new : L} {passed arm : ℕ} → Withdraws withdraws count start spared old passed arm new
      → others_idle old one → others_idle new one
  others_withdrawn one gate.Withdraws.NoArm idle = idle
  others_withdrawn one (gate.Withdraws.OneMore before other does) idle = kept.others_withdrawn _ _ _ one does (others_withdrawn one before idle)
  others_withdrawn one (gate.Withdraws.Spared before same) idle = others_withdrawn one before idle

  -- a last round, and the withdrawals after it
  ended : {started : ℕ} {old polled new : L} {end : _} {result : Result ℕ SelectError} → IsRound (turns true) count start old polled end
      → EndsAfter withdraws count start started end polled new result → all_idle old → IdleBy all_idle others_idle result new
  ended (gate.IsRound.AllWait w) (gate.EndsAfter.Expired left) idle = withdrawn left (waiting true w idle)
  ended (gate.IsRound.Completed {arm = arm} within w turn) (gate.EndsAfter.Won left) idle =
      others_withdrawn arm left (kept.completed _ _ _ _ _ turn (waiting true w idle))
  ended (gate.IsRound.Refused within w turn) (gate.EndsAfter.Refused left) idle =
      withdrawn left (kept.after_turn _ _ _ _ _ turn refused_on (waiting true w idle))

  -- the started arms are waited for
  started : {deadline : Deadline} {old new : L} {result : Result ℕ SelectError}
      → StartedSelection (turns true) (WaitsForArms deadline) withdraws count start old new result → all_idle old
      → IdleBy all_idle others_idle result new
  started (gate.StartedSelection.Ended r other e) idle = ended r e idle
  started (gate.StartedSelection.AtDeadline (gate.IsRound.AllWait w) waits last e) idle =
      ended last e (subst all_idle (sym waits.0) (waiting true w idle))
  started (gate.StartedSelection.Again (gate.IsRound.AllWait w) waits rest) idle =
      started rest (subst all_idle (sym waits.0) (waiting true w idle))

  -- the arms are started, and waited for
  awaited : {deadline : Deadline} {old new : L} {result : Result ℕ SelectError}
      → WholeSelection LeavesArms (turns true) (WaitsForArms deadline) withdraws count start old new result → all_idle old
      → IdleBy all_idle others_idle result new
  awaited (gate.WholeSelection.NoWaiter same) idle = subst all_idle (sym same) idle
  awaited (gate.WholeSelection.Won same (gate.IsRound.Completed {arm = arm} within w turn) left) idle =
      others_withdrawn arm left (kept.completed _ _ _ _ _ turn (waiting true w (subst all_idle (sym same) idle)))
  awaited (gate.WholeSelection.Refused same (gate.IsRound.Refused within w turn) left) idle =
      withdrawn left (kept.after_turn _ _ _ _ _ turn refused_on (waiting true w (subst all_idle (sym same) idle)))
  awaited (gate.WholeSelection.Started same (gate.IsRound.AllWait w) rest) idle =
      started rest (waiting true w (subst all_idle (sym same) idle))

  -- the arms are tried
  pub idle_tried : {old new : L} {result : Result (Option ℕ) NoMemory} → TriedSelection (turns false) count start old new result
      → all_idle old → IdleByTry all_idle others_idle result new
  idle_tried (gate.TriedSelection.NoneCompletes (gate.IsRound.AllWait w)) idle = waiting false w idle
  idle_tried (gate.TriedSelection.Won (gate.IsRound.Completed within w turn)) idle =
      kept.completed _ _ _ _ _ turn (waiting false w idle)
  idle_tried (gate.TriedSelection.Refused (gate.IsRound.Refused within w turn)) idle =
      kept.after_turn _ _ _ _ _ turn refused_on (waiting false w idle)

module _ {L M : Type 0} {mappers : L → M} {all_idle : L → Type 0} {others_idle : L → ℕ → Type 0}
    {turns : Bool → L → ℕ → L → ArmNext → Type 0} {withdraws : L → ℕ → L → Type 0} where
  -- a wait of a selector
  pub idle_raced : (kept : StayIdle mappers all_idle others_idle turns withdraws) (count start : ℕ) {deadline : Deadline} {old new : L}
      {result : Result ℕ SelectError} → Races turns withdraws count start deadline old new result → all_idle old
      → IdleBy all_idle others_idle result new
  idle_raced kept count start (call.Races.AtOnce tried) idle = idle_tried kept count _ tried idle
  idle_raced kept count start (call.Races.Refused tried) idle = idle_tried kept count _ tried idle
  idle_raced kept count start (call.Races.Awaited tried waited) idle = awaited kept count _ waited (idle_tried kept count _ tried idle)

module _ {M V P : Type 0} (completes : M → V → P → Type 0) (stand_by : M → P → Type 0) (mappers : M) (parties : P) where
  -- what the parties did by a try that has a value
  pub tried_parties : (value : Option V) → IsSome value → IfSome value (λ v. completes mappers v parties)
      → HasTriedArms completes stand_by mappers (Ok value) parties
  tried_parties (Some value) some did = did
  tried_parties None some did = absurd (let none : ⊥ = cc in none)
