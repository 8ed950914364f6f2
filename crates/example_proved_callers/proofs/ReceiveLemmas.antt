-- What a receive through the gate leads to: as in Sending, with a receive's own tables.
use Rattle.std.proofs.Common.{◌≡◌, ℕ, Bool, true, false, [], ◌∷◌, Option, Ok, Err, Result, arith}
use Rattle.flume_model.specs.declared.step.Kind.TheVariants.{Block}
use Rattle.flume_model.specs.declared.step.Step.{Step}
use Rattle.flume_model.specs.declared.step.Step.TheVariants.{TryRecv, Recv, Withdraw}
use Rattle.flume_model.specs.declared.step.Reply.{Reply}
use Rattle.flume_model.specs.declared.step.Reply.TheVariants.{Got, Empty, Gone}
use Rattle.flume_model.specs.declared.step.Reply.TheVariants.{Parked as ParkedUnder}
use Rattle.flume.specs.State.{State}
use Rattle.flume.specs.declared.error.RecvTimeoutError.{RecvTimeoutError}
use Rattle.flume.specs.declared.error.RecvTimeoutError.TheVariants.{Timeout}
use Rattle.flume_calls.specs.declared.calls.receive.RecvNext.{RecvNext}
use Rattle.flume_calls.specs.declared.calls.receive.RecvNext.TheVariants.{Done, NeedSignal, Park}
use Rattle.flume_calls.specs.declared.calls.receive.RecvNext.TheVariants.{Refused}
use Rattle.flume_calls.specs.ReceiveTurns.{after_try_recv, after_recv, after_parked_receive}
use Rattle.flume_calls.specs.ReceiveTurns.{step_of_parked_receive}
use Rattle.flume_calls.specs.ReceiveGates.{ParkedReceive, Asked, Withdrawn, Expired, Waited}
use Rattle.flume_calls.specs.ReceiveGates.{WholeReceive, AtFirst, NoWaiter, AtPark, Parked}
use Rattle.flume_calls.specs.ReceiveGates.{got_or_no_memory}
use Rattle.example_proved_callers.specs.LocalSends.{Leads, Makes}
use Rattle.example_proved_callers.specs.LocalReceives.{IsOfReceiver, parking_steps, First, Second, Later}
use Rattle.example_proved_callers.specs.LocalReceives.{IsReceived, IsGivenUp}
use Rattle.example_proved_callers.proofs.TurnLemmas.{chain, two_turns, Ended, by_turn, after_wait, Arms, InWait}

-- how a receive ends
abbrev pub Ending : Type 0 → Type 0
Ending T = Result T RecvTimeoutError

module _ {T A : Type 0} where
  -- the reply to which a turn before the receive parked answers so
  abbrev IsReplyOf : RecvNext T → Reply T A → Type 0
  IsReplyOf (Done (Ok m)) reply = reply ≡ Got m
  IsReplyOf (Done (Err Timeout)) reply = ⊥
  IsReplyOf (Done (Err other)) reply = Unit {0}
  IsReplyOf NeedSignal reply = reply ≡ Empty
  IsReplyOf (Park ticket) reply = reply ≡ ParkedUnder ticket
  IsReplyOf (Refused ticket) reply = Unit {0}

  -- the last step of the receive that parked under this ticket, and its reply, if it ends so
  abbrev IsLast : Ending T → ℕ → Step T → Reply T A → Type 0
  IsLast (Ok m) ticket step reply = IsOfReceiver ticket step × (reply ≡ Got m)
  IsLast (Err Timeout) ticket step reply =
      (step ≡ Withdraw ticket) × ((filled : Option ℕ) × (reply ≡ Gone false filled))
  IsLast (Err other) ticket step reply = Unit {0}

  -- a step of it, and its reply, if the turn answers so
  abbrev IsTurn : RecvNext T → ℕ → Step T → Reply T A → Type 0
  IsTurn (Done result) ticket step reply = IsLast result ticket step reply
  IsTurn (Park same) ticket step reply = same ≡ ticket
  IsTurn (Refused same) ticket step reply = same ≡ ticket
  IsTurn NeedSignal ticket step reply = Unit {0}

  -- if memory ran out, a message that comes is the turn's, and it never ends as late
  after_refusal : (answer : Ending T) (ticket : ℕ) (step : Step T) (reply : Reply T A)
      → IsLast answer ticket step reply → IsLast (got_or_no_memory answer) ticket step reply
  after_refusal answer ticket step reply last = grind arith

module _ {T A S : Type 0} where
  -- the reply of the first turn
  first_turn : {old new : State T S} {next : RecvNext T}
      (made : Makes A TryRecv after_try_recv old new next) → IsReplyOf next made.reply
  first_turn made = grind arith

  -- the reply of the turn that may park
  park_turn : {old new : State T S} {next : RecvNext T}
      (made : Makes A (Recv Block) after_recv old new next) → IsReplyOf next made.reply
  park_turn made = grind arith

  -- a receive that parked, and ended well
  parked_is_received : {old mid new : State T S} {ticket : ℕ} {result : Ending T}
      → Leads {A = A} old (parking_steps ticket) mid → Ended mid new (IsLast {A = A} result ticket)
      → (m : T) → result ≡ Ok m → IsReceived A m old new
  parked_is_received {ticket = ticket} parked end m ok =
      let last = rw ok at end.last in (
        _,
        chain (parking_steps ticket) ((end.step, Got m) ∷ end.others) parked (rw last.1 at end.leads),
        Later ticket end.others end.step last.0,
      )

  -- a receive that parked, and left with no message
  parked_is_given_up : {old mid new : State T S} {ticket : ℕ} {result : Ending T}
      → Leads {A = A} old (parking_steps ticket) mid → Ended mid new (IsLast {A = A} result ticket)
      → result ≡ Err Timeout → IsGivenUp A old new
  parked_is_given_up {ticket = ticket} parked end late =
      let last = rw late at end.last in
      record {
        ticket = ticket;
        others = end.others;
        filled = last.1.0;
        leads = chain (parking_steps ticket) ((Withdraw ticket, Gone false last.1.0) ∷ end.others) parked
            (rw (last.0, last.1.1) at end.leads);
      }

module _ {G T S : Type 0} (A : Type 0) (at : G → State T S) where
  -- what the first turn tells
  abbrev pub Firsts : G → G → RecvNext T → Type 0
  Firsts old new answer = Makes A TryRecv after_try_recv (at old) (at new) answer

  -- what the turn that may park tells
  abbrev pub Parks : G → G → RecvNext T → Type 0
  Parks old new answer = Makes A (Recv Block) after_recv (at old) (at new) answer

  -- what a turn of the parked receive tells
  abbrev pub Agains : G → ℕ → Bool → G → RecvNext T → Type 0
  Agains old ticket late new answer =
      Makes A (step_of_parked_receive ticket late) (after_parked_receive ticket late) (at old)
      (at new) answer

  -- the step and the reply of such a turn
  again_turn : {old new : G} {next : RecvNext T} (ticket : ℕ) (late : Bool)
      (made : Agains old ticket late new next)
      → IsTurn next ticket (step_of_parked_receive ticket late) made.reply
  again_turn ticket late made = grind arith

  -- how the parked receive ended
  parked_ended : {old new : G} {ticket : ℕ} {result : Ending T}
      → ParkedReceive Agains (InWait A at) old ticket new result
      → Ended (at old) (at new) (IsLast {A = A} result ticket)
  parked_ended (Asked made) = by_turn made (again_turn _ false made)
  parked_ended (Withdrawn {same = same} polls made is) =
      let last = after_refusal _ same _ made.reply (again_turn _ true made) in
      rw is (after_wait (IsLast _) polls ([], λ o log s. s) (again_turn _ false polls)
      (by_turn made last))
  parked_ended {result = result} (Expired polls waits made) =
      after_wait (IsLast result) polls waits (again_turn _ false polls)
      (by_turn made (again_turn _ true made))
  parked_ended {result = result} (Waited polls waits rest) =
      after_wait (IsLast result) polls waits (again_turn _ false polls) (parked_ended rest)

  -- a receive that ended well
  pub is_received : {old new : G} {result : Ending T}
      → WholeReceive Firsts (Arms A at) Parks Agains (InWait A at) old new result
      → (m : T) → result ≡ Ok m → IsReceived A m (at old) (at new)
  is_received (AtFirst made) m ok = (_, rw (rw ok at (first_turn made)) at made.leads, First)
  is_received (NoWaiter made arms is) m ok = absurd (let none : ⊥ = cc in none)
  is_received (AtPark made arms next) m ok =
      (_, two_turns made (first_turn made) arms next (rw ok at (park_turn next)), Second)
  is_received (Parked made arms next rest) m ok =
      parked_is_received (two_turns made (first_turn made) arms next (park_turn next))
      (parked_ended rest) m ok

  -- a receive that ended at its deadline
  pub is_given_up : {old new : G} {result : Ending T}
      → WholeReceive Firsts (Arms A at) Parks Agains (InWait A at) old new result
      → result ≡ Err Timeout → IsGivenUp A (at old) (at new)
  is_given_up (AtFirst made) late = absurd (rw late at (first_turn made))
  is_given_up (NoWaiter made arms is) late = absurd (let none : ⊥ = cc in none)
  is_given_up (AtPark made arms next) late = absurd (rw late at (park_turn next))
  is_given_up (Parked made arms next rest) late =
      parked_is_given_up (two_turns made (first_turn made) arms next (park_turn next))
      (parked_ended rest) late
