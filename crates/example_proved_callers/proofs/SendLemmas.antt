-- What a send through the gate leads to. Its tables have other rows than those of a receive, so
-- each of the two has its own lemmas of turns; what serves both is in Turns.
use Rattle.std.proofs.Common.{◌≡◌, ℕ, Bool, true, false, ◌∷◌, ◌++◌, Option, Ok, Err, Result, arith}
use Rattle.std.proofs.lemmas.List.{append_assoc}
use Rattle.flume_model.specs.declared.step.Step.{Step}
use Rattle.flume_model.specs.declared.step.Step.TheVariants.{TrySend, Send, WithdrawSend}
use Rattle.flume_model.specs.declared.step.Reply.{Reply}
use Rattle.flume_model.specs.declared.step.Reply.TheVariants.{Sent, Full, Pending, Returned}
use Rattle.flume_model.specs.Log.{Log}
use Rattle.flume.specs.State.{State}
use Rattle.flume.specs.Represents.{IsReachable}
use Rattle.flume.specs.declared.error.SendTimeoutError.{SendTimeoutError}
use Rattle.flume.specs.declared.error.SendTimeoutError.TheVariants.{Timeout}
use Rattle.flume_calls.specs.declared.calls.send.SendNext.{SendNext}
use Rattle.flume_calls.specs.declared.calls.send.SendNext.TheVariants.{Done, NeedSignal, Park}
use Rattle.flume_calls.specs.SendTurns.{after_try_send, after_send, after_parked_send}
use Rattle.flume_calls.specs.SendTurns.{step_of_parked_send}
use Rattle.flume_calls.specs.SendGates.{ParkedSend, Asked, Expired, Waited}
use Rattle.flume_calls.specs.SendGates.{WholeSend, AtFirst, NoWaiter, AtPark, Parked}
use Rattle.example_proved_callers.specs.LocalSends.{Leads, Makes, IsAcceptedSend, blocking_steps, First, Second, Later}
use Rattle.example_proved_callers.specs.LocalSends.{IsSent, IsTakenBack}
use Rattle.example_proved_callers.proofs.ReturnLemmas.{blocked_is}
use Rattle.example_proved_callers.proofs.TurnLemmas.{chain, two_turns, Ended, by_turn, after_wait, Arms, InWait}

-- how a send ends
abbrev pub Ending : Type 0 → Type 0
Ending T = Result (Unit {0}) (SendTimeoutError T)

module _ {T A : Type 0} where
  -- the reply to which a turn before the send parked answers so
  abbrev IsReplyOf : SendNext T → Reply T A → Type 0
  IsReplyOf (Done (Ok sent)) reply = (filled : Option ℕ) × (reply ≡ Sent filled)
  IsReplyOf (Done (Err (Timeout back))) reply = ⊥
  IsReplyOf (Done (Err other)) reply = Unit {0}
  IsReplyOf (NeedSignal m) reply = reply ≡ Full m
  IsReplyOf (Park ticket) reply = reply ≡ Pending ticket

  -- the last step of the send that parked under this ticket, and its reply, if it ends so
  abbrev IsLast : Ending T → ℕ → Step T → Reply T A → Type 0
  IsLast (Ok sent) ticket step reply = IsAcceptedSend ticket step reply
  IsLast (Err (Timeout back)) ticket step reply =
      (step ≡ WithdrawSend ticket) × (reply ≡ Returned back false)
  IsLast (Err other) ticket step reply = Unit {0}

  -- a step of it, and its reply, if the turn answers so
  abbrev IsTurn : SendNext T → ℕ → Step T → Reply T A → Type 0
  IsTurn (Done result) ticket step reply = IsLast result ticket step reply
  IsTurn (Park same) ticket step reply = same ≡ ticket
  IsTurn (NeedSignal m) ticket step reply = Unit {0}

module _ {T A S : Type 0} where
  -- the reply of the first turn
  first_turn : {old new : State T S} {m : T} {next : SendNext T}
      (made : Makes A (TrySend m) after_try_send old new next) → IsReplyOf next made.reply
  first_turn made = grind arith

  -- the reply of the turn that may park
  park_turn : {old new : State T S} {m : T} {next : SendNext T}
      (made : Makes A (Send m) after_send old new next) → IsReplyOf next made.reply
  park_turn made = grind arith

  -- the message that comes back is the one that blocked, however long the log was before
  came_back : {old new : State T S} (m back : T) (ticket : ℕ) (others : Log T A)
      → IsReachable A old
      → Leads old ((WithdrawSend ticket, Returned back false) ∷ others ++ blocking_steps m ticket) new
      → back ≡ m
  came_back m back ticket others reachable leads =
      let run = rw (append_assoc others (blocking_steps m ticket) reachable.1) at (leads reachable.0 reachable.1 reachable.2).run in
      blocked_is reachable.0 others ((TrySend m, Full m) ∷ reachable.1) ticket m back run.1 run.0.0

  -- a send that parked, and ended well
  parked_is_sent : {old mid new : State T S} {m : T} {ticket : ℕ} {result : Ending T}
      → Leads {A = A} old (blocking_steps m ticket) mid → Ended mid new (IsLast {A = A} result ticket)
      → result ≡ Ok tt → IsSent A m old new
  parked_is_sent {m = m} {ticket = ticket} blocked end ok = (
    _,
    chain (blocking_steps m ticket) ((end.step, end.reply) ∷ end.others) blocked end.leads,
    Later ticket end.others end.step end.reply (rw ok at end.last),
  )

  -- a send that parked, and took its message back
  parked_is_taken_back : {old mid new : State T S} {m : T} {ticket : ℕ} {result : Ending T}
      → IsReachable A old → Leads {A = A} old (blocking_steps m ticket) mid
      → Ended mid new (IsLast {A = A} result ticket) → (back : T) → result ≡ Err (Timeout back)
      → IsTakenBack A m back old new
  parked_is_taken_back {m = m} {ticket = ticket} reachable blocked end back late =
      let last = rw late at end.last in
      let leads = chain (blocking_steps m ticket) ((WithdrawSend ticket, Returned back false) ∷ end.others)
      blocked (rw (last.0, last.1) at end.leads) in
      record {
        ticket = ticket;
        others = end.others;
        leads = leads;
        same = came_back m back ticket end.others reachable leads;
      }

module _ {G T S : Type 0} (A : Type 0) (at : G → State T S) where
  -- what the first turn tells
  abbrev pub Firsts : G → T → G → SendNext T → Type 0
  Firsts old message new answer =
      Makes A (TrySend message) after_try_send (at old) (at new) answer

  -- what the turn that may park tells
  abbrev pub Parks : G → T → G → SendNext T → Type 0
  Parks old message new answer = Makes A (Send message) after_send (at old) (at new) answer

  -- what a turn of the parked send tells
  abbrev pub Agains : G → ℕ → Bool → G → SendNext T → Type 0
  Agains old ticket late new answer =
      Makes A (step_of_parked_send ticket late) (after_parked_send ticket late) (at old) (at new)
      answer

  -- the step and the reply of such a turn
  again_turn : {old new : G} {next : SendNext T} (ticket : ℕ) (late : Bool)
      (made : Agains old ticket late new next)
      → IsTurn next ticket (step_of_parked_send ticket late) made.reply
  again_turn ticket late made = grind arith

  -- how the parked send ended
  parked_ended : {old new : G} {ticket : ℕ} {result : Ending T}
      → ParkedSend Agains (InWait A at) old ticket new result
      → Ended (at old) (at new) (IsLast {A = A} result ticket)
  parked_ended (Asked made) = by_turn made (again_turn _ false made)
  parked_ended {result = result} (Expired polls waits made) =
      after_wait (IsLast result) polls waits (again_turn _ false polls)
      (by_turn made (again_turn _ true made))
  parked_ended {result = result} (Waited polls waits rest) =
      after_wait (IsLast result) polls waits (again_turn _ false polls) (parked_ended rest)

  -- a send that ended well
  pub is_sent : {old new : G} {m : T} {result : Ending T}
      → WholeSend Firsts (Arms A at) Parks Agains (InWait A at) old m new result
      → result ≡ Ok tt → IsSent A m (at old) (at new)
  is_sent (AtFirst made) ok =
      let step_of = rw ok at (first_turn made) in (_, rw step_of.1 at made.leads, First step_of.0)
  is_sent (NoWaiter made arms is) ok = absurd (let none : ⊥ = cc in none)
  is_sent (AtPark made arms parks) ok =
      let step_of = rw ok at (park_turn parks) in
      (_, two_turns made (first_turn made) arms parks step_of.1, Second step_of.0)
  is_sent (Parked made arms parks rest) ok =
      parked_is_sent (two_turns made (first_turn made) arms parks (park_turn parks))
      (parked_ended rest) ok

  -- a send that ended at its deadline
  pub is_taken_back : {old new : G} {m : T} {result : Ending T} → IsReachable A (at old)
      → WholeSend Firsts (Arms A at) Parks Agains (InWait A at) old m new result
      → (back : T) → result ≡ Err (Timeout back) → IsTakenBack A m back (at old) (at new)
  is_taken_back reachable (AtFirst made) back late = absurd (rw late at (first_turn made))
  is_taken_back reachable (NoWaiter made arms is) back late = absurd (let none : ⊥ = cc in none)
  is_taken_back reachable (AtPark made arms parks) back late = absurd (rw late at (park_turn parks))
  is_taken_back reachable (Parked made arms parks rest) back late =
      parked_is_taken_back reachable (two_turns made (first_turn made) arms parks (park_turn parks))
      (parked_ended rest) back late
