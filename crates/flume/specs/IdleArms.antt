-- Arms without a message: through turns and withdrawals each stays so, but the one that completes.
use Rattle.std.specs.Prelude.{◌≡◌, ◌≢◌, ℕ, Bool, true, false}
use Rattle.std.specs.Prelude.{Err}
use mathlib.Core.Path.{refl, sym, subst}
use mathlib.Core.Logic.{inl, inr}
use Rattle.flume_core.specs.declared.error.RecvTimeoutError.TheVariants as timed
use Rattle.flume_calls.specs.declared.calls.receive.RecvNext.{RecvNext}
use Rattle.flume_calls.specs.declared.calls.receive.RecvNext.TheVariants.{Done, NeedSignal}
use Rattle.flume_calls.specs.declared.calls.receive.RecvNext.TheVariants.{Park}
use Rattle.flume_calls.specs.declared.gates.select.ArmNext.{ArmNext}
use Rattle.flume_calls.specs.declared.gates.select.ArmNext.TheVariants as next
use Rattle.flume.specs.ArmStates.{IsAfterReceive}
use Rattle.flume.specs.ArmTurns.{ReceiveTurn, WithdrawsReceive}
use Rattle.flume.specs.TracedArms.{HasNoMessage}
use Rattle.flume.specs.declared.select.receive.ReceiveState.{ReceiveState}
use Rattle.flume.specs.declared.select.receive.ReceiveState.TheVariants as receiving

module _ {C M : Type 0} (mapper : C → M) (is_idle : C → Type 0)
    (turns : Bool → C → ArmNext → C → Type 0) (withdraws : C → C → Type 0) where
  -- an arm keeps its mapper, and stays idle if it doesn't complete
  pub record StaysIdle : Type 0 where
    pub same_after_turn : (parks : Bool) (old new : C) (answer : ArmNext) → turns parks old answer new
        → mapper new ≡ mapper old
    pub same_withdrawn : (old new : C) → withdraws old new → mapper new ≡ mapper old
    pub after_turn : (parks : Bool) (old new : C) (answer : ArmNext) → turns parks old answer new
        → answer ≢ next.Completed → is_idle old → is_idle new
    pub withdrawn : (old new : C) → withdraws old new → is_idle old → is_idle new

module _ {L M : Type 0} (mappers : L → M) (all_idle : L → Type 0) (others_idle : L → ℕ → Type 0)
    (turns : Bool → L → ℕ → L → ArmNext → Type 0) (withdraws : L → ℕ → L → Type 0) where
  -- arms keep their mappers, and each stays idle, but the one that completes
  pub record StayIdle : Type 0 where
    pub same_after_turn : (parks : Bool) (old new : L) (arm : ℕ) (answer : ArmNext)
        → turns parks old arm new answer → mappers new ≡ mappers old
    pub same_withdrawn : (old new : L) (arm : ℕ) → withdraws old arm new
        → mappers new ≡ mappers old
    pub after_turn : (parks : Bool) (old new : L) (arm : ℕ) (answer : ArmNext)
        → turns parks old arm new answer → answer ≢ next.Completed → all_idle old → all_idle new
    pub completed : (parks : Bool) (old new : L) (arm : ℕ) (answer : ArmNext)
        → turns parks old arm new answer → all_idle old → others_idle new arm
    pub withdrawn : (old new : L) (arm : ℕ) → withdraws old arm new → all_idle old → all_idle new
    pub others_withdrawn : (old new : L) (arm other : ℕ) → withdraws old arm new
        → others_idle old other → others_idle new other

-- an arm that keeps no message
pub stays_idle : {C M : Type 0} {mapper : C → M} {turns : Bool → C → ArmNext → C → Type 0}
    {withdraws : C → C → Type 0}
    → ((parks : Bool) (old new : C) (answer : ArmNext) → turns parks old answer new
    → mapper new ≡ mapper old) → ((old new : C) → withdraws old new → mapper new ≡ mapper old)
    → StaysIdle mapper (λ arm. Unit {0}) turns withdraws
stays_idle turn left = record {
  same_after_turn = turn;
  same_withdrawn = left;
  after_turn = λ parks old new answer does none idle. tt;
  withdrawn = λ old new does idle. tt;
}

module _ {T : Type 0} (A : Type 0) where
  -- the state after a turn that didn't complete the arm
  pub after_no_message : (turn : RecvNext T) (answer : ArmNext) (new : ReceiveState T)
      → IsAfterReceive turn answer new → answer ≢ next.Completed → HasNoMessage new
  after_no_message (Park ticket) next.Waits new is none = subst HasNoMessage (sym is) tt
  after_no_message NeedSignal next.Waits new is none = subst HasNoMessage (sym is) tt
  after_no_message (Done (Err timed.NoMemory)) next.NoMemory new is none =
      subst HasNoMessage (sym is) tt
  after_no_message turn next.Completed new is none = absurd (none refl)
  after_no_message _ _ new is none = absurd is

  -- the same by the state before
  pub turn_no_message : (parks : Bool) (old new : ReceiveState T) (answer : ArmNext)
      → ReceiveTurn A parks old answer new → answer ≢ next.Completed → HasNoMessage old
      → HasNoMessage new
  turn_no_message true receiving.Unstarted new answer (inl made) none idle =
      after_no_message made.0 answer new made.3 none
  turn_no_message true receiving.Unstarted new answer (inr refused) none idle =
      subst HasNoMessage (sym refused.1) tt
  turn_no_message false receiving.Unstarted new answer made none idle =
      after_no_message made.0 answer new made.3 none
  turn_no_message parks (receiving.Parked ticket) new answer made none idle =
      after_no_message made.0 answer new made.3 none
  turn_no_message parks (receiving.Completed message) new answer same none idle =
      absurd (none same.0)
  turn_no_message parks receiving.Finished new answer same none idle =
      subst HasNoMessage (sym same.1) tt

  -- and after a withdrawal
  pub left_no_message : (old new : ReceiveState T) → WithdrawsReceive A old new
      → HasNoMessage old → HasNoMessage new
  left_no_message receiving.Unstarted new same idle = subst HasNoMessage (sym same) idle
  left_no_message (receiving.Parked ticket) new left idle = subst HasNoMessage (sym left.0) tt
  left_no_message (receiving.Completed message) new same idle =
      subst HasNoMessage (sym same) idle
  left_no_message receiving.Finished new same idle = subst HasNoMessage (sym same) idle
