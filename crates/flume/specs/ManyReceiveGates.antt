-- A receive of many messages through its gate, turn by turn, by what a keeper says of its party.
use Rattle.std.specs.Prelude.{◌≡◌, ℕ, ◌-◌, Bool, List, Result, Vec}
use Rattle.flume_model.specs.declared.step.Kind.TheVariants.{Block}
use Rattle.flume_model.specs.declared.step.Step.TheVariants.{Recv}
use Rattle.flume_core.specs.declared.error.RecvTimeoutError.{RecvTimeoutError}
use Rattle.flume_calls.specs.declared.calls.receive.RecvNext.{RecvNext}
use Rattle.flume_calls.specs.Batches.{IsOneStep}
use Rattle.flume_calls.specs.ReceiveTurns.{after_recv, after_parked_receive}
use Rattle.flume_calls.specs.ReceiveTurns.{step_of_parked_receive, IsFirstAnswer}
use Rattle.flume_calls.specs.ReceiveTurns.{IsParkingAnswer, IsParkedAnswer, HadMemory}
use Rattle.flume_calls.specs.ReceiveGates.{WholeReceive}
use Rattle.flume_calls.specs.ManyReceives.{IsAtMost, FirstManyTable, MakesMore}
use Rattle.flume_actions.specs.Actions.{Action}
use Rattle.flume_keeper.specs.Keeps.{Did}
use Rattle.flume.specs.ManyReceiveSteps.{LacksRoom}

-- whose call it is, how many it takes at most, and its list
pub record ManyState (P T A : Type 0) : Type 0 where
  pub party : P
  pub most : ℕ
  pub list : Vec T A

module _ {P T A : Type 0} where
  -- the call's state
  abbrev pub many_state : P → ℕ → Vec T A → ManyState P T A
  many_state party most list = record { party = party; most = most; list = list }

  -- its waiter was made, or it waited: neither changes what it has
  pub record SameState (old new : ManyState P T A) (happened : Bool) : Type 0 where
    pub party : new.party ≡ old.party
    pub most : new.most ≡ old.most
    pub items : new.list.items ≡ old.list.items

-- `did` is what the keeper says: that a party made these steps, with these replies
module _ {P T A : Type 0} (did : P → List (Action T A) → P → Type 0) where
  -- the first turn takes what is there
  pub record FirstManyOf (old new : ManyState P T A) (next : RecvNext ℕ) : Type 0 where
    pub answers : IsFirstAnswer next
    pub most : new.most ≡ old.most
    pub at_most : IsAtMost old.most next
    pub room : LacksRoom old.list old.most next
    pub turn : Did did (λ made next. FirstManyTable old.list.items made new.list.items next)
        old.party next new.party

  -- a turn that makes these steps, and takes what is there behind a message that it gave
  pub record TurnAndMoreOf (makes : List (Action T A) → RecvNext T → Type 0)
      (old new : ManyState P T A) (next : RecvNext ℕ) : Type 0 where
    pub most : new.most ≡ old.most
    pub turn : Did did (λ made next. MakesMore makes old.list (old.most - 1) made
        (record { buffer = new.list; next = next })) old.party next new.party

  -- the turn that may park it
  pub record ParkManyOf (old new : ManyState P T A) (next : RecvNext ℕ) : Type 0 where
    pub answers : IsParkingAnswer next
    pub turn : TurnAndMoreOf (IsOneStep (Recv Block) after_recv) old new next

  -- a turn of the parked call
  pub record AgainManyOf (old : ManyState P T A) (ticket : ℕ) (last : Bool)
      (new : ManyState P T A) (next : RecvNext ℕ) : Type 0 where
    pub answers : IsParkedAnswer ticket last next
    pub had_memory : HadMemory next
    pub turn : TurnAndMoreOf (IsOneStep (step_of_parked_receive ticket last)
        (after_parked_receive ticket last)) old new next

  -- a whole receive of many
  abbrev pub ReceivesManyOf : ℕ → P → Vec T A → P → Vec T A → Result ℕ RecvTimeoutError → Type 0
  ReceivesManyOf most old before new after result = (end : ℕ)
      × WholeReceive FirstManyOf SameState ParkManyOf AgainManyOf SameState
      (many_state old most before) (many_state new end after) result
