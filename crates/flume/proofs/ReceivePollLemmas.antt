-- What a poll makes of a receive, by its answer: it waits under its own ticket, has none, or is as it was.
use Rattle.std.proofs.Common.{◌≡◌, ℕ, ◌+◌, Bool, true, false, List, ◌∷◌, length, Option, Some, None, IsSome}
use Rattle.std.proofs.Common.{Result, Ok, Err, IfOk, refl, sym, ap, ◌∙◌, subst, arith}
use Rattle.flume_model.specs.declared.step.Kind.{Kind}
use Rattle.flume_state.specs.State.{State}
use Rattle.flume_core.specs.declared.error.RecvError.{RecvError}
use Rattle.flume_core.specs.declared.error.RecvError.TheVariants.{Disconnected, NoMemory}
use Rattle.flume_core.specs.declared.error.RecvTimeoutError.TheVariants as timed
use Rattle.flume_calls.specs.declared.calls.receive.RecvNext.{RecvNext}
use Rattle.flume_calls.specs.declared.calls.receive.RecvNext.TheVariants.{Done, NeedSignal, Park, Refused}
use Rattle.flume_calls.specs.declared.polled.receive.PolledReceive.{PolledReceive}
use Rattle.flume_calls.specs.ReceiveTurns.{IsFirstAnswer, IsParkingAnswer, IsPollAnswer, HadMemory}
use Rattle.flume_calls.specs.PolledReceives.{waiting_answer, finishes_receive, ReceivePoll, Tries, Parks, Unsignalled, Asks}
use Rattle.flume.specs.ManyReceiveCalls.{Appends}
use Rattle.flume.specs.ReceivePolls.{LeavesCall, HasPolledReceive, AddsMore, HasPolledMany}

-- no ticket is none
no_ticket : (after : Option ℕ) → IsSome {T = ℕ} None → after ≡ None
no_ticket after was = absurd (let none : ⊥ = cc in none)

module _ {T : Type 0} where
  -- what a poll makes of the ticket, by its answer
  abbrev Leaves : Option ℕ → Option ℕ → Option (Result T RecvError) → Type 0
  Leaves call after None = IsSome after × (IsSome call → after ≡ call)
  Leaves call after (Some (Ok message)) = after ≡ None
  Leaves call after (Some (Err Disconnected)) = after ≡ None
  Leaves call after (Some (Err NoMemory)) = after ≡ call

  -- of an answer that is equal
  with_answer : (call after : Option ℕ) {answer : Option (Result T RecvError)} (said : Option (Result T RecvError)) → answer ≡ said
      → Leaves call after said → Leaves call after answer
  with_answer call after said is leaves = subst (λ a. Leaves call after a) (sym is) leaves

  -- a receive that wasn't parked, and had no signal
  first_leaves : (next : RecvNext T) (after : Option ℕ) (answer : Option (Result T RecvError)) → IsFirstAnswer next → HadMemory next
      → finishes_receive false next after answer → Leaves None after answer
  first_leaves (Done (Ok m)) after answer first served is = with_answer None after (Some (Ok m)) is.1 is.0
  first_leaves (Done (Err timed.Disconnected)) after answer first served is = with_answer None after (Some (Err Disconnected)) is.1 is.0
  first_leaves (Done (Err timed.NoMemory)) after answer first served is = with_answer None after (Some (Err NoMemory)) is.1 is.0
  first_leaves (Done (Err timed.Timeout)) after answer first served is = absurd is
  first_leaves NeedSignal after answer first served is = with_answer None after (Some (Err NoMemory)) is.1 is.0
  first_leaves (Park t) after answer first served is = absurd first
  first_leaves (Refused t) after answer first served is = absurd first

  -- a receive that wasn't parked, and had a signal
  parking_leaves : (next : RecvNext T) (after : Option ℕ) (answer : Option (Result T RecvError)) → IsParkingAnswer next
      → finishes_receive true next after answer → Leaves None after answer
  parking_leaves (Done (Ok m)) after answer parking is = with_answer None after (Some (Ok m)) is.1 is.0
  parking_leaves (Done (Err timed.Disconnected)) after answer parking is = with_answer None after (Some (Err Disconnected)) is.1 is.0
  parking_leaves (Done (Err timed.NoMemory)) after answer parking is = with_answer None after (Some (Err NoMemory)) is.1 is.0
  parking_leaves (Done (Err timed.Timeout)) after answer parking is = absurd is
  parking_leaves NeedSignal after answer parking is = absurd parking
  parking_leaves (Park t) after answer parking is =
      with_answer None after None is.1 (subst (λ a. IsSome a × (IsSome {T = ℕ} None → a ≡ None)) (sym is.0)
      (refl, λ was. no_ticket (Some t) was))
  parking_leaves (Refused t) after answer parking is = absurd parking

  -- a parked receive that waits on
  waiting_leaves : (t same : ℕ) (signalled : Bool) (after : Option ℕ) (answer : Option (Result T RecvError)) → same ≡ t → after ≡ Some same
      → answer ≡ waiting_answer signalled → Leaves (Some t) after answer
  waiting_leaves t same true after answer is parked said =
      with_answer (Some t) after None said (subst (λ a. IsSome a × (IsSome (Some t) → a ≡ Some t)) (sym parked) (refl, λ was. ap Some is))
  waiting_leaves t same false after answer is parked said = with_answer (Some t) after (Some (Err NoMemory)) said (parked ∙ ap Some is)

  -- a parked receive
  later_leaves : (t : ℕ) (signalled : Bool) (next : RecvNext T) (after : Option ℕ) (answer : Option (Result T RecvError))
      → IsPollAnswer t next
      → HadMemory next → finishes_receive signalled next after answer → Leaves (Some t) after answer
  later_leaves t signalled (Done (Ok m)) after answer later served is = with_answer (Some t) after (Some (Ok m)) is.1 is.0
  later_leaves t signalled (Done (Err timed.Disconnected)) after answer later served is =
      with_answer (Some t) after (Some (Err Disconnected)) is.1 is.0
  later_leaves t signalled (Done (Err timed.NoMemory)) after answer later served is = absurd later
  later_leaves t signalled (Done (Err timed.Timeout)) after answer later served is = absurd is
  later_leaves t signalled NeedSignal after answer later served is = absurd later
  later_leaves t signalled (Park same) after answer later served is = waiting_leaves t same signalled after answer later is.0 is.1
  later_leaves t signalled (Refused same) after answer later served is = absurd served

module _ {T S A : Type 0} {kind : Kind} {call after : Option ℕ} {signal : Option S} {old new : State T S} {answer : Option
    (Result T RecvError)} where
  -- one poll
  poll_leaves : ReceivePoll A kind call signal old new after answer → Leaves call after answer
  poll_leaves (Tries next unparked none turn first served outcome settles) =
      subst (λ c. Leaves c after answer) (sym unparked) (first_leaves next after answer first served settles)
  poll_leaves (Parks next given unparked some turn parking outcome settles) =
      subst (λ c. Leaves c after answer) (sym unparked) (parking_leaves next after answer parking settles)
  poll_leaves (Unsignalled ticket parked none nothing same kept said) = with_answer call after (Some (Err NoMemory)) said kept
  poll_leaves (Asks next ticket parked signalled turn later served outcome settles) =
      subst (λ c. Leaves c after answer) (sym parked) (later_leaves ticket _ next after answer later served settles)

module _ {T A : Type 0} {old new : PolledReceive} where
  -- what one poll makes of its receive
  pub leaves : {answer : Option (Result T RecvError)} → HasPolledReceive A old new answer → LeavesCall old new answer
  leaves {answer} made =
      let to = poll_leaves made.polled.1 in
      let at : (said : Option (Result T RecvError)) → answer ≡ said → Leaves old.call new.call said =
      λ said is. subst (λ a. Leaves old.call new.call a) is to in
      record {
        kind = made.polled.0;
        parked = λ said. (at None said).0;
        stays = λ said. (at None said).1;
        got = λ message said. at (Some (Ok message)) said;
        disconnected = λ said. at (Some (Err Disconnected)) said;
        no_memory = λ said. at (Some (Err NoMemory)) said;
      }

module _ {T : Type 0} (most : ℕ) (before after : List T) where
  -- what came by a poll of many, by what its receive answered
  more_came : {answer : Option (Result ℕ RecvError)} (first : Option (Result T RecvError)) (result : Result ℕ RecvError)
      → answer ≡ Some result
      → AddsMore most before first after answer → IfOk result (Appends most before after)
  more_came (Some (Ok message)) (Ok count) said is =
      let same : length is.0 + 1 ≡ count = cc in
      let number : length (message ∷ is.0) ≡ count = omega arith in
      record { messages = message ∷ is.0; items = is.1; number = number; at_most = omega arith; some = λ none. omega arith }
  more_came (Some (Err error)) (Ok count) said is = absurd (let none : ⊥ = cc in none)
  more_came None (Ok count) said is = absurd (let none : ⊥ = cc in none)
  more_came first (Err error) said is = tt

  -- what came by a poll of many
  pub many_came : {A : Type 0} {n : ℕ} {start : List T} {old new : PolledReceive} {answer : Option (Result ℕ RecvError)}
      (result : Result ℕ RecvError)
      → n ≡ most → start ≡ before → answer ≡ Some result → HasPolledMany A n start old after new answer
      → IfOk result (Appends most before after)
  many_came {n = n} {answer = answer} result number items said is =
      let by_items : AddsMore n before is.first after answer = subst (λ l. AddsMore n l is.first after answer) items is.more in
      more_came is.first result said (subst (λ m. AddsMore m before is.first after answer) number by_items)
