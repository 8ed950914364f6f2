-- A poll of a send that is ready has ended it, and one that is pending has parked it; if its message wasn't offered
-- before, what comes back is that message.
use Rattle.std.proofs.Common.{◌≡◌, ℕ, Bool, true, false, Option, Some, None, Result, Ok, Err, ◌∙◌, refl, ap, subst}
use Rattle.flume_state.specs.State.{State}
use Rattle.flume_core.specs.declared.error.SendError.{SendError}
use Rattle.flume_core.specs.declared.error.SendError.TheVariants.{Disconnected, NoMemory}
use Rattle.flume_core.specs.declared.error.SendTimeoutError.TheVariants as timed
use Rattle.flume_calls.specs.declared.calls.send.SendNext.{SendNext}
use Rattle.flume_calls.specs.declared.calls.send.SendNext.TheVariants.{Done, NeedSignal, Park}
use Rattle.flume_calls.specs.declared.polled.send.PolledSend.{PolledSend}
use Rattle.flume_calls.specs.declared.polled.send.PolledSend.TheVariants.{Unsent, Parked, Finished}
use Rattle.flume_calls.specs.SendTurns.{IsFirstAnswer, IsParkingAnswer, IsParkedAnswer}
use Rattle.flume_calls.specs.PolledSends.{finishes_send, SendPoll, AlreadyFinished, Tries, Parks, Asks}

-- what a poll answers
abbrev pub Answer : Type 0 → Type 0
Answer T = Option (Result (Unit {0}) (SendError T))

-- a turn of a parked send that waits on keeps its ticket
same_ticket : (T : Type 0) (ticket : ℕ) (late : Bool) (same : ℕ) → IsParkedAnswer {T = T} ticket late (Park same) → same ≡ ticket
same_ticket T ticket false same again = again
same_ticket T ticket true same again = absurd again

module _ {T : Type 0} where
  -- the message that an error holds
  abbrev pub back_of : SendError T → T
  back_of (Disconnected back) = back
  back_of (NoMemory back) = back

  -- a send whose poll is ready is finished
  ready_finishes : (next : SendNext T) (after : PolledSend T) (answer : Answer T) → finishes_send next after answer
      → (result : Result (Unit {0}) (SendError T)) → answer ≡ Some result → after ≡ Finished
  ready_finishes (Done (Ok sent)) after answer is result ready = is.0
  ready_finishes (Done (Err (timed.Disconnected back))) after answer is result ready = is.0
  ready_finishes (Done (Err (timed.NoMemory back))) after answer is result ready = is.0
  ready_finishes (Done (Err (timed.Timeout back))) after answer is result ready = is.0
  ready_finishes (NeedSignal back) after answer is result ready = is.0
  ready_finishes (Park ticket) after answer is result ready =
      let waits : answer ≡ None = is.1 in absurd (let none : ⊥ = cc in none)

  -- a send whose poll is pending is parked, by its turn
  pending_parks : (next : SendNext T) (after : PolledSend T) (answer : Answer T) → finishes_send next after answer → answer ≡ None
      → (ticket : ℕ) × (next ≡ Park ticket) × (after ≡ Parked ticket)
  pending_parks (Done (Ok sent)) after answer is none =
      let ready : answer ≡ Some (Ok tt) = is.1 in absurd (let no : ⊥ = cc in no)
  pending_parks (Done (Err (timed.Disconnected back))) after answer is none =
      let ready : answer ≡ Some (Err (Disconnected back)) = is.1 in absurd (let no : ⊥ = cc in no)
  pending_parks (Done (Err (timed.NoMemory back))) after answer is none =
      let ready : answer ≡ Some (Err (NoMemory back)) = is.1 in absurd (let no : ⊥ = cc in no)
  pending_parks (Done (Err (timed.Timeout back))) after answer is none =
      let ready : answer ≡ Some (Err (NoMemory back)) = is.1 in absurd (let no : ⊥ = cc in no)
  pending_parks (NeedSignal back) after answer is none =
      let ready : answer ≡ Some (Err (NoMemory back)) = is.1 in absurd (let no : ⊥ = cc in no)
  pending_parks (Park ticket) after answer is none = (ticket, refl, is.0)

  -- what comes back by a first turn
  first_back : (message : T) (next : SendNext T) → IsFirstAnswer message next → (after : PolledSend T) (answer : Answer T)
      → finishes_send next after answer → (error : SendError T) → answer ≡ Some (Err error) → back_of error ≡ message
  first_back message (Done (Ok sent)) first after answer is error ready =
      let ended : answer ≡ Some (Ok tt) = is.1 in absurd (let none : ⊥ = cc in none)
  first_back message (Done (Err (timed.Disconnected back))) first after answer is error ready =
      let ended : answer ≡ Some (Err (Disconnected back)) = is.1 in
      let same : error ≡ Disconnected back = cc in ap back_of same ∙ first
  first_back message (Done (Err (timed.NoMemory back))) first after answer is error ready =
      let ended : answer ≡ Some (Err (NoMemory back)) = is.1 in
      let same : error ≡ NoMemory back = cc in ap back_of same ∙ first
  first_back message (Done (Err (timed.Timeout back))) first after answer is error ready = absurd first
  first_back message (NeedSignal back) first after answer is error ready =
      let ended : answer ≡ Some (Err (NoMemory back)) = is.1 in
      let same : error ≡ NoMemory back = cc in ap back_of same ∙ first
  first_back message (Park ticket) first after answer is error ready = absurd first

  -- what comes back by a turn that may park
  parking_back : (message : T) (next : SendNext T) → IsParkingAnswer message next → (after : PolledSend T) (answer : Answer T)
      → finishes_send next after answer → (error : SendError T) → answer ≡ Some (Err error) → back_of error ≡ message
  parking_back message (Done result) parking after answer is error ready =
      first_back message (Done result) parking after answer is error ready
  parking_back message (NeedSignal back) parking after answer is error ready = absurd parking
  parking_back message (Park ticket) parking after answer is error ready =
      let waits : answer ≡ None = is.1 in absurd (let none : ⊥ = cc in none)

module _ {T S A : Type 0} {send after : PolledSend T} {signal : Option S} {old new : State T S} {answer : Answer T} where
  -- a send whose poll is ready is finished
  pub poll_finishes : SendPoll A send signal old new after answer → (result : Result (Unit {0}) (SendError T)) → answer ≡ Some result
      → after ≡ Finished
  poll_finishes (AlreadyFinished is same finished ok) result ready = finished
  poll_finishes (Tries message next is none turned first outcome settles) result ready =
      ready_finishes next after answer settles result ready
  poll_finishes (Parks message next given is some turned parking outcome settles) result ready =
      ready_finishes next after answer settles result ready
  poll_finishes (Asks late ticket next is held signalled turned again outcome settles) result ready =
      ready_finishes next after answer settles result ready

  -- a send whose poll is pending is parked
  pub is_parked : SendPoll A send signal old new after answer → answer ≡ None → (ticket : ℕ) × (after ≡ Parked ticket)
  is_parked (AlreadyFinished is same finished ok) none = absurd (let no : ⊥ = cc in no)
  is_parked (Tries message next is given turned first outcome settles) none =
      let parked = pending_parks next after answer settles none in (parked.0, parked.2)
  is_parked (Parks message next given is some turned parking outcome settles) none =
      let parked = pending_parks next after answer settles none in (parked.0, parked.2)
  is_parked (Asks late ticket next is held signalled turned again outcome settles) none =
      let parked = pending_parks next after answer settles none in (parked.0, parked.2)

  -- one that was parked waits on under its ticket
  pub keeps_ticket : SendPoll A send signal old new after answer → (ticket : ℕ) → send ≡ Parked ticket → answer ≡ None
      → after ≡ Parked ticket
  keeps_ticket (AlreadyFinished is same finished ok) ticket parked none = absurd (let no : ⊥ = cc in no)
  keeps_ticket (Tries message next is given turned first outcome settles) ticket parked none = absurd (let no : ⊥ = cc in no)
  keeps_ticket (Parks message next given is some turned parking outcome settles) ticket parked none = absurd (let no : ⊥ = cc in no)
  keeps_ticket (Asks late t next is held signalled turned again outcome settles) ticket parked none =
      let now = pending_parks next after answer settles none in
      let same : t ≡ ticket = cc in
      let stays = same_ticket T t late now.0 (subst (λ next. IsParkedAnswer t late next) now.1 again) in
      now.2 ∙ ap Parked (stays ∙ same)

  -- a send that has ended answers that it is sent
  pub finished_is_ok : SendPoll A send signal old new after answer → send ≡ Finished → answer ≡ Some (Ok tt)
  finished_is_ok (AlreadyFinished is same finished ok) over = ok
  finished_is_ok (Tries message next is none turned first outcome settles) over = absurd (let none : ⊥ = cc in none)
  finished_is_ok (Parks message next given is some turned parking outcome settles) over = absurd (let none : ⊥ = cc in none)
  finished_is_ok (Asks late ticket next is held signalled turned again outcome settles) over = absurd (let none : ⊥ = cc in none)

  -- what comes back of one that wasn't sent is its message
  pub error_holds_message : SendPoll A send signal old new after answer → (message : T) → send ≡ Unsent message
      → (error : SendError T) → answer ≡ Some (Err error) → back_of error ≡ message
  error_holds_message (AlreadyFinished is same finished ok) message unsent error ready = absurd (let none : ⊥ = cc in none)
  error_holds_message (Tries m next is none turned first outcome settles) message unsent error ready =
      let same : m ≡ message = cc in first_back m next first after answer settles error ready ∙ same
  error_holds_message (Parks m next given is some turned parking outcome settles) message unsent error ready =
      let same : m ≡ message = cc in parking_back m next parking after answer settles error ready ∙ same
  error_holds_message (Asks late ticket next is held signalled turned again outcome settles) message unsent error ready =
      absurd (let none : ⊥ = cc in none)
