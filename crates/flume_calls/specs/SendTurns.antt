-- The turns of a send: which step each makes, and what it answers to the step's reply.
use Rattle.std.specs.Prelude.{◌≡◌, ℕ, Bool, true, false, Some, Ok, Err}
use Rattle.flume_model.specs.declared.step.Step.{Step}
use Rattle.flume_model.specs.declared.step.Step.TheVariants.{PollSend, WithdrawSend}
use Rattle.flume_model.specs.declared.step.Reply.{Reply}
use Rattle.flume_model.specs.declared.step.Reply.TheVariants.{Sent, Full, Closed, Spent, Pending}
use Rattle.flume_model.specs.declared.step.Reply.TheVariants as reply
use Rattle.flume_model.specs.declared.step.Reply.TheVariants.{Accepted, Waiting, Returned, NoTicket}
use Rattle.flume_core.specs.declared.error.SendTimeoutError.TheVariants.{Timeout, Disconnected}
use Rattle.flume_core.specs.declared.error.SendTimeoutError.TheVariants.{NoMemory}
use Rattle.flume_calls.specs.declared.calls.send.SendNext.{SendNext}
use Rattle.flume_calls.specs.declared.calls.send.SendNext.TheVariants.{Done, NeedSignal, Park}

module _ {T : Type 0} where
  -- the first turn never parks and never times out
  abbrev pub IsFirstAnswer : T → SendNext T → Type 0
  IsFirstAnswer message (Done (Ok sent)) = Unit {0}
  IsFirstAnswer message (Done (Err (Timeout back))) = ⊥
  IsFirstAnswer message (Done (Err (Disconnected back))) = back ≡ message
  IsFirstAnswer message (Done (Err (NoMemory back))) = back ≡ message
  IsFirstAnswer message (NeedSignal back) = back ≡ message
  IsFirstAnswer message (Park ticket) = ⊥

  -- the turn that may park never needs a signal and never times out
  abbrev pub IsParkingAnswer : T → SendNext T → Type 0
  IsParkingAnswer message (NeedSignal back) = ⊥
  IsParkingAnswer message (Park ticket) = Unit {0}
  IsParkingAnswer message other = IsFirstAnswer message other

  -- a turn of the send parked under this ticket that isn't its last
  abbrev pub IsPollAnswer : ℕ → SendNext T → Type 0
  IsPollAnswer ticket (Done (Ok sent)) = Unit {0}
  IsPollAnswer ticket (Done (Err (Disconnected back))) = Unit {0}
  IsPollAnswer ticket (Park same) = same ≡ ticket
  IsPollAnswer ticket _ = ⊥

  -- the last turn of a parked send, which withdraws
  abbrev pub IsWithdrawAnswer : SendNext T → Type 0
  IsWithdrawAnswer (Done (Ok sent)) = Unit {0}
  IsWithdrawAnswer (Done (Err (Disconnected back))) = Unit {0}
  IsWithdrawAnswer (Done (Err (Timeout back))) = Unit {0}
  IsWithdrawAnswer _ = ⊥

  -- a turn of a parked send, by whether it is the last
  abbrev pub IsParkedAnswer : ℕ → Bool → SendNext T → Type 0
  IsParkedAnswer ticket false next = IsPollAnswer ticket next
  IsParkedAnswer ticket true next = IsWithdrawAnswer next

  -- an offer that hands its message back
  abbrev pub HandsBack : SendNext T → Type 0
  HandsBack (NeedSignal back) = Unit {0}
  HandsBack (Done (Err error)) = Unit {0}
  HandsBack _ = ⊥

  -- the step of a parked send's turn, by whether it is the last
  abbrev pub step_of_parked_send : ℕ → Bool → Step T
  step_of_parked_send ticket false = PollSend ticket
  step_of_parked_send ticket true = WithdrawSend ticket

module _ {T A : Type 0} where
  -- the first turn, to the reply of a `try_send`; a reply that isn't in a table never comes
  abbrev pub after_try_send : Reply T A → SendNext T → Type 0
  after_try_send (Sent filled) next = next ≡ Done (Ok tt)
  after_try_send (Full back) next = next ≡ NeedSignal back
  after_try_send (Closed back) next = next ≡ Done (Err (Disconnected back))
  after_try_send (reply.NoMemory (Some back)) next = next ≡ Done (Err (NoMemory back))
  after_try_send _ next = ⊥

  -- the turn that may park, to the reply of a `send`
  abbrev pub after_send : Reply T A → SendNext T → Type 0
  after_send (Sent filled) next = next ≡ Done (Ok tt)
  after_send (Pending ticket) next = next ≡ Park ticket
  after_send (Closed back) next = next ≡ Done (Err (Disconnected back))
  after_send (reply.NoMemory (Some back)) next = next ≡ Done (Err (NoMemory back))
  after_send (Spent (Some back)) next = next ≡ Done (Err (NoMemory back))
  after_send _ next = ⊥

  -- a turn of a parked send, to the reply of a `poll_send`
  abbrev pub after_poll_send : ℕ → Reply T A → SendNext T → Type 0
  after_poll_send ticket Accepted next = next ≡ Done (Ok tt)
  after_poll_send ticket NoTicket next = next ≡ Done (Ok tt)
  after_poll_send ticket Waiting next = next ≡ Park ticket
  after_poll_send ticket (Returned back closed) next = next ≡ Done (Err (Disconnected back))
  after_poll_send ticket _ next = ⊥

  -- the last turn, to the reply of a `withdraw_send`
  abbrev pub after_withdraw_send : Reply T A → SendNext T → Type 0
  after_withdraw_send Accepted next = next ≡ Done (Ok tt)
  after_withdraw_send NoTicket next = next ≡ Done (Ok tt)
  after_withdraw_send (Returned back true) next = next ≡ Done (Err (Disconnected back))
  after_withdraw_send (Returned back false) next = next ≡ Done (Err (Timeout back))
  after_withdraw_send _ next = ⊥

  -- a turn of a parked send, by whether it is the last
  abbrev pub after_parked_send : ℕ → Bool → Reply T A → SendNext T → Type 0
  after_parked_send ticket false reply next = after_poll_send ticket reply next
  after_parked_send ticket true reply next = after_withdraw_send reply next
