-- A selection through the gate of a selector is one of its arms, up to its deadline.
use Rattle.std.proofs.Common.{◌≡◌, ℕ, Bool, true, false, Option, None, Some, IsSome, IfSome, Result, Ok, Err, refl, ◌∙◌, ap, subst}
use Rattle.flume_core.specs.declared.error.NoMemory.{NoMemory}
use Rattle.flume_core.specs.declared.error.SelectError.{SelectError}
use Rattle.flume_calls.specs.declared.gates.select.ArmNext.{ArmNext}
use Rattle.flume_calls.specs.SelectGates as gate
use Rattle.flume_calls.specs.SelectGates.{Waiting, IsRound, Withdraws, EndsAfter, StartedSelection, WholeSelection, TriedSelection}
use Rattle.flume_deadline.specs.declared.Deadline.{Deadline}
use Rattle.flume.specs.GateSteps.{WaitsUpTo}
use Rattle.flume.specs.Selections.{first_arm}
use Rattle.flume.specs.SelectionCalls as call
use Rattle.flume.specs.SelectionCalls.{LeavesArms, WaitsForArms, TriesArms, AwaitsArms, Tries, Races, Selects}
use Rattle.flume.specs.declared.select.Selector.{Selector}

module _ {V L A : Type 0} where
  -- a turn of the gate is one of the arms, and keeps the deadline
  abbrev pub GateTurns : (L → ℕ → L → ArmNext → Type 0) → Selector V L A → ℕ → Selector V L A → ArmNext → Type 0
  GateTurns turns old arm new next = turns old.arms arm new.arms next × (new.deadline ≡ old.deadline)

  -- a withdrawal of the gate is one of the arms
  abbrev pub GateWithdraws : (L → ℕ → L → Type 0) → Selector V L A → ℕ → Selector V L A → Type 0
  GateWithdraws withdraws old arm new = withdraws old.arms arm new.arms

  -- a wait of the gate leaves it as it is
  abbrev pub GateWaits : Selector V L A → Selector V L A → Bool → Type 0
  GateWaits old new expired = (new ≡ old) × WaitsUpTo old.deadline old.deadline expired

module _ {V L A : Type 0} (turns : L → ℕ → L → ArmNext → Type 0) (count start : ℕ) where
  -- the arms waited, and the deadline is the same
  waiting : {old new : Selector V L A} {made arm : ℕ} → Waiting (GateTurns turns) count start old made arm new
      → Waiting turns count start old.arms made arm new.arms × (new.deadline ≡ old.deadline)
  waiting gate.NoTurn = (gate.NoTurn, refl)
  waiting (gate.OneMore before turn) =
      let earlier = waiting before in (gate.OneMore earlier.0 turn.0, turn.1 ∙ earlier.1)

  -- a round was made of the arms, and the deadline is the same
  round : {old new : Selector V L A} {end : _} → IsRound (GateTurns turns) count start old new end
      → IsRound turns count start old.arms new.arms end × (new.deadline ≡ old.deadline)
  round (gate.IsRound.AllWait w) = let earlier = waiting w in (gate.IsRound.AllWait earlier.0, earlier.1)
  round (gate.IsRound.Completed within w turn) =
      let earlier = waiting w in (gate.IsRound.Completed within earlier.0 turn.0, turn.1 ∙ earlier.1)
  round (gate.IsRound.Refused within w turn) =
      let earlier = waiting w in (gate.IsRound.Refused within earlier.0 turn.0, turn.1 ∙ earlier.1)

  -- the arms were tried
  tried : {old new : Selector V L A} {result : Result (Option ℕ) NoMemory}
      → TriedSelection (GateTurns turns) count start old new result → TriedSelection turns count start old.arms new.arms result
  tried (gate.TriedSelection.NoneCompletes r) = gate.TriedSelection.NoneCompletes (round r).0
  tried (gate.TriedSelection.Won r) = gate.TriedSelection.Won (round r).0
  tried (gate.TriedSelection.Refused r) = gate.TriedSelection.Refused (round r).0

module _ {V L A : Type 0} (turns : L → ℕ → L → ArmNext → Type 0) (withdraws : L → ℕ → L → Type 0) (count start : ℕ) where
  -- the arms were withdrawn
  withdrawn : {spared : Option ℕ} {old new : Selector V L A} {passed arm : ℕ}
      → Withdraws (GateWithdraws withdraws) count start spared old passed arm new
      → Withdraws withdraws count start spared old.arms passed arm new.arms
  withdrawn gate.Withdraws.NoArm = gate.Withdraws.NoArm
  withdrawn (gate.Withdraws.OneMore before other does) = gate.Withdraws.OneMore (withdrawn before) other does
  withdrawn (gate.Withdraws.Spared before same) = gate.Withdraws.Spared (withdrawn before) same

  -- the arms were withdrawn after the last round
  ended : {started : ℕ} {end : _} {old new : Selector V L A} {result : Result ℕ SelectError}
      → EndsAfter (GateWithdraws withdraws) count start started end old new result
      → EndsAfter withdraws count start started end old.arms new.arms result
  ended (gate.EndsAfter.Expired w) = gate.EndsAfter.Expired (withdrawn w)
  ended (gate.EndsAfter.Won w) = gate.EndsAfter.Won (withdrawn w)
  ended (gate.EndsAfter.Refused w) = gate.EndsAfter.Refused (withdrawn w)

  -- a wait of the gate up to its deadline is one of the arms up to that
  waited : {old new : Selector V L A} {expired : Bool} {end : Deadline} → GateWaits old new expired → old.deadline ≡ end
      → WaitsForArms end old.arms new.arms expired × (new.deadline ≡ end)
  waited {expired = expired} wait same =
      ((ap (λ s. s.arms) wait.0, subst (λ d. WaitsUpTo d d expired) same wait.1), ap (λ s. s.deadline) wait.0 ∙ same)

  -- the started arms are waited for
  started : {old new : Selector V L A} {result : Result ℕ SelectError} {end : Deadline}
      → StartedSelection (GateTurns turns) GateWaits (GateWithdraws withdraws) count start old new result → old.deadline ≡ end
      → StartedSelection turns (WaitsForArms end) withdraws count start old.arms new.arms result
  started (gate.StartedSelection.Ended r other e) same =
      gate.StartedSelection.Ended (round turns count start r).0 other (ended e)
  started (gate.StartedSelection.AtDeadline r w last e) same =
      let first = round turns count start r in
      gate.StartedSelection.AtDeadline first.0 (waited w (first.1 ∙ same)).0 (round turns count start last).0 (ended e)
  started (gate.StartedSelection.Again r w rest) same =
      let first = round turns count start r in
      let wait = waited w (first.1 ∙ same) in
      gate.StartedSelection.Again first.0 wait.0 (started rest wait.1)

  -- the arms are started, and waited for up to the deadline
  awaited : {old new : Selector V L A} {result : Result ℕ SelectError}
      → WholeSelection LeavesArms (GateTurns turns) GateWaits (GateWithdraws withdraws) count start old new result
      → WholeSelection LeavesArms turns (WaitsForArms old.deadline) withdraws count start old.arms new.arms result
  awaited (gate.WholeSelection.NoWaiter same) = gate.WholeSelection.NoWaiter (ap (λ s. s.arms) same)
  awaited (gate.WholeSelection.Won same r w) =
      gate.WholeSelection.Won (ap (λ s. s.arms) same) (round turns count start r).0 (withdrawn w)
  awaited (gate.WholeSelection.Refused same r w) =
      gate.WholeSelection.Refused (ap (λ s. s.arms) same) (round turns count start r).0 (withdrawn w)
  awaited (gate.WholeSelection.Started same r rest) =
      let first = round turns count start r in
      gate.WholeSelection.Started (ap (λ s. s.arms) same) first.0 (started rest (first.1 ∙ ap (λ s. s.deadline) same))

module _ {V L A M : Type 0} (mappers : L → M) (count : M → ℕ) (turns : Bool → L → ℕ → L → ArmNext → Type 0) where
  -- what stays the same throughout a selection
  abbrev pub setup_of : Selector V L A → M × ℕ × Deadline
  setup_of selector = (mappers selector.arms, selector.start, selector.deadline)

  -- the arms are tried through the gate
  pub tries_arms : {old new : Selector V L A} {result : Result (Option ℕ) NoMemory}
      → TriedSelection (GateTurns (turns false)) (count (mappers old.arms)) (first_arm (count (mappers old.arms)) old.start) old new result
      → TriesArms turns (count (mappers old.arms)) old.start old.arms new.arms result
  tries_arms run = tried (turns false) _ _ run

  -- the arms are started and waited for through the gate, after a try that left its setup as it was
  pub awaits_arms : (withdraws : L → ℕ → L → Type 0) {old tried new : Selector V L A} {result : Result ℕ SelectError}
      → WholeSelection LeavesArms (GateTurns (turns true)) GateWaits (GateWithdraws withdraws) (count (mappers tried.arms))
      (first_arm (count (mappers tried.arms)) tried.start) tried new result
      → setup_of tried ≡ setup_of old
      → AwaitsArms turns (count (mappers old.arms)) old.start withdraws old.deadline tried.arms new.arms result
  awaits_arms withdraws {tried = tried} {new = new} {result = result} run same = subst
      (λ s. WholeSelection LeavesArms (turns true) (WaitsForArms s.2) withdraws (count s.0) (first_arm (count s.0) s.1)
      tried.arms new.arms result) same (awaited (turns true) withdraws _ _ run)

module _ {L V : Type 0} {turns : Bool → L → ℕ → L → ArmNext → Type 0} {answers : L → ℕ → V → Type 0} {count start : ℕ} where
  -- a try gives the value of the arm that completed
  pub tried_value : {old new : L} {arm : ℕ} (value : Option V) → TriesArms turns count start old new (Ok (Some arm)) → IsSome value
      → IfSome value (answers new arm) → Tries turns answers count start old (Ok value)
  tried_value (Some value) run some answered = Tries.Completed run answered
  tried_value None run some answered = absurd (let none : ⊥ = cc in none)

module _ {L V : Type 0} {turns : Bool → L → ℕ → L → ArmNext → Type 0} {withdraws : L → ℕ → L → Type 0}
    {answers : L → ℕ → V → Type 0} {count start : ℕ} {deadline : Deadline} where
  -- a wait that failed
  pub race_failed : {old new : L} {error : SelectError} → Races turns withdraws count start deadline old new (Err error)
      → Selects turns withdraws answers count start deadline old (Err error)
  race_failed (call.Races.Refused tried) = Selects.Refused (Tries.Refused tried)
  race_failed (call.Races.Awaited tried waited) = Selects.Failed tried waited

  -- a wait that gives the value of the arm that completed
  pub race_won : {old new : L} {arm : ℕ} {value : V} → Races turns withdraws count start deadline old new (Ok arm)
      → answers new arm value → Selects turns withdraws answers count start deadline old (Ok value)
  race_won (call.Races.AtOnce tried) answered = Selects.AtOnce (Tries.Completed tried answered)
  race_won (call.Races.Awaited tried waited) answered = Selects.Won tried waited answered
