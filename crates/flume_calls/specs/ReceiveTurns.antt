-- The turns of a receive: which step each makes, and what it answers to the step's reply.
use Rattle.std.specs.Prelude.{◌≡◌, ℕ, Bool, true, false, Ok, Err}
use Rattle.flume_model.specs.declared.step.Step.{Step}
use Rattle.flume_model.specs.declared.step.Step.TheVariants.{Poll, Withdraw}
use Rattle.flume_model.specs.declared.step.Reply.{Reply}
use Rattle.flume_model.specs.declared.step.Reply.TheVariants as reply
use Rattle.flume_model.specs.declared.step.Reply.TheVariants.{Spent, Waiting, NoTicket, Got}
use Rattle.flume_model.specs.declared.step.Reply.TheVariants.{Empty, Ended, Parked, Gone}
use Rattle.flume_core.specs.declared.error.RecvTimeoutError.TheVariants.{Timeout, Disconnected}
use Rattle.flume_core.specs.declared.error.RecvTimeoutError.TheVariants.{NoMemory}
use Rattle.flume_calls.specs.declared.calls.receive.RecvNext.{RecvNext}
use Rattle.flume_calls.specs.declared.calls.receive.RecvNext.TheVariants.{Done, NeedSignal, Park}
use Rattle.flume_calls.specs.declared.calls.receive.RecvNext.TheVariants.{Refused}

module _ {T : Type 0} where
  -- the first turn never parks and never times out
  abbrev pub IsFirstAnswer : RecvNext T → Type 0
  IsFirstAnswer (Done (Err Timeout)) = ⊥
  IsFirstAnswer (Park ticket) = ⊥
  IsFirstAnswer (Refused ticket) = ⊥
  IsFirstAnswer _ = Unit {0}

  -- the turn that may park never needs a signal and never times out
  abbrev pub IsParkingAnswer : RecvNext T → Type 0
  IsParkingAnswer (Done (Err Timeout)) = ⊥
  IsParkingAnswer NeedSignal = ⊥
  IsParkingAnswer (Refused ticket) = ⊥
  IsParkingAnswer _ = Unit {0}

  -- a turn of the receive parked under this ticket that isn't its last
  abbrev pub IsPollAnswer : ℕ → RecvNext T → Type 0
  IsPollAnswer ticket (Done (Err Timeout)) = ⊥
  IsPollAnswer ticket (Done (Err NoMemory)) = ⊥
  IsPollAnswer ticket NeedSignal = ⊥
  IsPollAnswer ticket (Park same) = same ≡ ticket
  IsPollAnswer ticket (Refused same) = same ≡ ticket
  IsPollAnswer ticket _ = Unit {0}

  -- the last turn of a parked receive, which withdraws
  abbrev pub IsWithdrawAnswer : RecvNext T → Type 0
  IsWithdrawAnswer (Done (Err NoMemory)) = ⊥
  IsWithdrawAnswer (Done result) = Unit {0}
  IsWithdrawAnswer _ = ⊥

  -- a turn of a parked receive, by whether it is the last
  abbrev pub IsParkedAnswer : ℕ → Bool → RecvNext T → Type 0
  IsParkedAnswer ticket false next = IsPollAnswer ticket next
  IsParkedAnswer ticket true next = IsWithdrawAnswer next

  -- memory didn't run out
  abbrev pub HadMemory : RecvNext T → Type 0
  HadMemory (Done (Err NoMemory)) = ⊥
  HadMemory (Refused ticket) = ⊥
  HadMemory _ = Unit {0}

  -- a receive that gave no message, and isn't parked
  abbrev pub GivesNone : RecvNext T → Type 0
  GivesNone NeedSignal = Unit {0}
  GivesNone (Done (Err error)) = Unit {0}
  GivesNone _ = ⊥

  -- the step of a parked receive's turn, by whether it is the last
  abbrev pub step_of_parked_receive : ℕ → Bool → Step T
  step_of_parked_receive ticket false = Poll ticket
  step_of_parked_receive ticket true = Withdraw ticket

module _ {T A : Type 0} where
  -- The first turn, to the reply of a `try_recv`. A reply that isn't in a table never comes. To a
  -- `try_recv` or a `poll` only the abstract channel may answer `NoMemory`, a `Chan` never does.
  abbrev pub after_try_recv : Reply T A → RecvNext T → Type 0
  after_try_recv (Got message) next = next ≡ Done (Ok message)
  after_try_recv Empty next = next ≡ NeedSignal
  after_try_recv Ended next = next ≡ Done (Err Disconnected)
  after_try_recv (reply.NoMemory back) next = next ≡ Done (Err NoMemory)
  after_try_recv _ next = ⊥

  -- the turn that may park, to the reply of a `recv`
  abbrev pub after_recv : Reply T A → RecvNext T → Type 0
  after_recv (Got message) next = next ≡ Done (Ok message)
  after_recv (Parked ticket) next = next ≡ Park ticket
  after_recv Ended next = next ≡ Done (Err Disconnected)
  after_recv (reply.NoMemory back) next = next ≡ Done (Err NoMemory)
  after_recv (Spent back) next = next ≡ Done (Err NoMemory)
  after_recv _ next = ⊥

  -- a turn of a parked receive, to the reply of a `poll`
  abbrev pub after_poll : ℕ → Reply T A → RecvNext T → Type 0
  after_poll ticket (Got message) next = next ≡ Done (Ok message)
  after_poll ticket Waiting next = next ≡ Park ticket
  after_poll ticket Ended next = next ≡ Done (Err Disconnected)
  after_poll ticket NoTicket next = next ≡ Done (Err Disconnected)
  after_poll ticket (reply.NoMemory back) next = next ≡ Refused ticket
  after_poll ticket _ next = ⊥

  -- the last turn, to the reply of a `withdraw`
  abbrev pub after_withdraw : Reply T A → RecvNext T → Type 0
  after_withdraw (Got message) next = next ≡ Done (Ok message)
  after_withdraw (Gone true filled) next = next ≡ Done (Err Disconnected)
  after_withdraw (Gone false filled) next = next ≡ Done (Err Timeout)
  after_withdraw NoTicket next = next ≡ Done (Err Disconnected)
  after_withdraw _ next = ⊥

  -- a turn of a parked receive, by whether it is the last
  abbrev pub after_parked_receive : ℕ → Bool → Reply T A → RecvNext T → Type 0
  after_parked_receive ticket false reply next = after_poll ticket reply next
  after_parked_receive ticket true reply next = after_withdraw reply next
