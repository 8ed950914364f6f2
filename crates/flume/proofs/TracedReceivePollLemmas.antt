-- What a receive that is a future with a party did, from poll to poll.
use Rattle.std.proofs.Common.{◌≡◌, ℕ, Bool, true, false, Option, Some, None, List, [], ◌∷◌, Result, Ok, Err}
use Rattle.std.proofs.Common.{refl, sym, ap, ◌∙◌, subst}
use Rattle.std.specs.Prelude.{option_to_list}
use Rattle.std.specs.Option.{option_map}
use Rattle.std.specs.Result.{result_ok}
use Rattle.flume_model.specs.declared.step.Kind.{Kind}
use Rattle.flume_model.specs.declared.step.Step.TheVariants.{Recv, Poll, Withdraw}
use Rattle.flume_core.specs.declared.error.RecvError.{RecvError}
use Rattle.flume_core.specs.declared.error.RecvError.TheVariants.{Disconnected, NoMemory}
use Rattle.flume_core.specs.declared.error.RecvTimeoutError.{RecvTimeoutError}
use Rattle.flume_core.specs.declared.error.RecvTimeoutError.TheVariants as timed
use Rattle.flume_calls.specs.declared.calls.receive.RecvNext.TheVariants.{Done, NeedSignal, Park, Refused}
use Rattle.flume_calls.specs.declared.calls.receive.AgainReceive.{AgainReceive}
use Rattle.flume_calls.specs.Batches.{IsOneStep}
use Rattle.flume_calls.specs.ReceiveTurns.{after_poll, after_withdraw, after_parked_receive, step_of_parked_receive}
use Rattle.flume_calls.specs.PolledReceives.{ReceivePollSteps, finishes_receive, waiting_answer, MakesTry, MakesRecv, MakesNone, MakesPoll}
use Rattle.flume_party.specs.Parties.{PartyState, and_made}
use Rattle.flume_actions.specs.Actions.{Action}
use Rattle.flume_actions.specs.ReceiveCalls as polled
use Rattle.flume_actions.specs.Calls.{IsCall, TriesToReceive, PollsToReceive, got_by}
use Rattle.flume_actions.specs.Callers.{HasMadeCalls}
use Rattle.flume_actions.proofs.CallerLemmas.{and_call}
use Rattle.futures.specs.declared.task.Poll.TheVariants.{Ready}
use Rattle.flume.specs.EndedCalls.{EndsReceive, ReceivedByTry, ReceivedByPolls, HasEndedReceive, GivesReceive}
use Rattle.flume.specs.ReceivePolls.{answer_of_item}
use Rattle.flume.specs.TracedPolls.{CanReceive, got_if}
use Rattle.flume_keeper.specs.Keeps.{Did}
use Rattle.flume.specs.TracedSends.{has_added}
use Rattle.flume.proofs.TracedLemmas.{has_stepped, then_made}

-- a party, by its actions
abbrev P : Type 0 → Type 0 → Type 0
P T A = PartyState (Action T A)

-- one call more
pub one_more : {T A : Type 0} {start old new : P T A} {actions : List (Action T A)} {got : List T} → HasMadeCalls start old [] []
    → IsCall actions [] got → new ≡ and_made old actions → HasMadeCalls start new [] got
one_more before call made = and_call before (record { actions = _; call = call; made = made }) refl refl

-- a result's message, if it has one
got_ok : {T E : Type 0} (result : Result T E) → got_by result ≡ got_if (result_ok result)
got_ok (Ok message) = refl
got_ok (Err error) = refl

-- what a stream gives is what its receive got
pub got_item : {T : Type 0} {answer : Result T RecvError} (item : Option T) (fault : Bool)
    → answer_of_item (Ready item) fault ≡ Some answer → got_by answer ≡ option_to_list item
got_item {answer = answer} (Some message) fault is =
    let same : Ok message ≡ answer = cc in sym (ap got_by same)
got_item {answer = answer} None true is =
    let same : Err NoMemory ≡ answer = cc in sym (ap got_by same)
got_item {answer = answer} None false is =
    let same : Err Disconnected ≡ answer = cc in sym (ap got_by same)

-- it was parked
pub was_parked : {S X : Type 0} {turn : AgainReceive S} (call : Option ℕ)
    → Some turn ≡ option_map (λ call. record { call = call; last = true; signal = None }) call → call ≡ None → X
was_parked None is none = absurd (let no : ⊥ = cc in no)
was_parked (Some ticket) is none = absurd (let no : ⊥ = cc in no)

module _ {T A : Type 0} where
  -- a receive that ended is a whole call, behind others that got nothing
  pub received_calls : {start now : P T A} {result : Result T RecvTimeoutError}
      → HasEndedReceive start now result → HasMadeCalls start now [] (got_by result)
  received_calls {start = start} did = by_end did.ends did.made
    where
      by_end : {actions : List (Action T A)} {result : Result T RecvTimeoutError} → EndsReceive actions result
          → {now : P T A} → now ≡ and_made did.between actions → HasMadeCalls start now [] (got_by result)
      by_end (ReceivedByTry {result = result} answered) made = one_more did.before (TriesToReceive (Done result) answered) made
      by_end (ReceivedByPolls polls) made = one_more did.before (PollsToReceive polls) made

  -- the answer of a receive that got a message
  pub got_answer : {start now : P T A} {message : T} → HasEndedReceive start now (Ok message)
      → GivesReceive start now (Ok message)
  got_answer did = record { called = received_calls did; ended = did }

  -- a poll with an error, after which the receive may still be parked
  abbrev pub AfterError : P T A → RecvError → Option ℕ → P T A → Type 0
  AfterError start Disconnected call now = (call ≡ None) × HasEndedReceive start now (Err timed.Disconnected)
  AfterError start NoMemory call now = CanReceive start call now

  -- after a poll with this answer, or that waits on
  abbrev pub AfterPoll : P T A → Option (Result T RecvError) → Option ℕ → P T A → Type 0
  AfterPoll start (Some (Ok message)) call now = HasEndedReceive start now (Ok message)
  AfterPoll start (Some (Err error)) call now = AfterError start error call now
  AfterPoll start None call now = CanReceive start call now

  -- it can go on
  pub still_can : (start now : P T A) (error : RecvError) (call : Option ℕ) → AfterError start error call now
      → CanReceive start call now
  still_can start now Disconnected call after =
      subst (λ call. CanReceive start call now) (sym after.0) (received_calls after.1)
  still_can start now NoMemory call after = after

  -- and if it left then without a message, it answers the error
  pub gave_error : {X : Type 0} (start between now : P T A) (error : RecvError) (call : Option ℕ)
      → AfterError start error call between → (call ≡ None → (now ≡ between) × X)
      → HasMadeCalls start now [] [] → GivesReceive start now (Err error)
  gave_error start between now Disconnected call after same calls =
      let unparked = same after.0 in
      record {
        called = calls;
        ended = subst (λ now. HasEndedReceive start now (Err timed.Disconnected)) (sym unparked.0) after.1;
      }
  gave_error start between now NoMemory call after same calls = record { called = calls; ended = calls }

  module _ (start new : P T A) (after : Option ℕ) (answer : Option (Result T RecvError)) where
    -- by the answer and the ticket
    settles : {said : Option (Result T RecvError)} {ticket : Option ℕ} → after ≡ ticket → answer ≡ said
        → AfterPoll start said ticket new → AfterPoll start answer after new
    settles {said = said} to says on =
        subst (λ said. AfterPoll start said after new) (sym says) (subst (λ call. AfterPoll start said call new) (sym to) on)

    -- a receive that ends
    ends : (signalled : Bool) (result : Result T RecvTimeoutError) → HasEndedReceive start new result
        → finishes_receive signalled (Done result) after answer → AfterPoll start answer after new
    ends signalled (Ok message) did finishes = settles finishes.0 finishes.1 did
    ends signalled (Err timed.Disconnected) did finishes = settles finishes.0 finishes.1 (refl, did)
    ends signalled (Err timed.NoMemory) did finishes = settles finishes.0 finishes.1 (received_calls did)
    ends signalled (Err timed.Timeout) did finishes = absurd finishes

    -- one that waits on, or had no signal
    waits : (signalled : Bool) (ticket : ℕ) → CanReceive start (Some ticket) new → after ≡ Some ticket
        → answer ≡ waiting_answer signalled → AfterPoll start answer after new
    waits true ticket can to says = settles to says can
    waits false ticket can to says = settles to says can

    -- a poll of a receive
    pub receives_on : {kind : Kind} (old : P T A) (call : Option ℕ) {made : List (Action T A)} → CanReceive start call old
        → ReceivePollSteps kind after answer call made → new ≡ and_made old made → AfterPoll start answer after new
    receives_on old call can (MakesTry (Done result) answered first finishes) is =
        ends false result (record { between = old; before = can; actions = _; ends = ReceivedByTry answered; made = is })
        finishes
    receives_on old call can (MakesTry NeedSignal answered first finishes) is =
        settles finishes.0 finishes.1 (one_more can (TriesToReceive NeedSignal answered) is)
    receives_on old call can (MakesTry (Park ticket) answered first finishes) is = absurd first
    receives_on old call can (MakesTry (Refused ticket) answered first finishes) is = absurd first
    receives_on old call can (MakesRecv (Done result) answered parking finishes) is =
        ends true result (record { between = old; before = can; actions = _; ends = ReceivedByPolls (polled.AtOnce answered); made = is })
        finishes
    receives_on old call can (MakesRecv NeedSignal answered parking finishes) is = absurd parking
    receives_on {kind = kind} old call can (MakesRecv {reply = reply} (Park ticket) answered parking finishes) is =
        waits true ticket (λ later result end polls to. record {
          between = old;
          before = can;
          actions = _;
          ends = ReceivedByPolls (polled.Polled answered polls);
          made = then_made old ((Recv kind, reply) ∷ []) later to is;
        }) finishes.0 finishes.1
    receives_on old call can (MakesRecv (Refused ticket) answered parking finishes) is = absurd parking
    receives_on old call can (MakesNone kept said) is =
        settles kept said (λ later result end polls to. can later result end polls (then_made old [] later to is))
    receives_on old call can (MakesPoll (Done result) signalled answered again finishes) is =
        ends signalled result (can _ result new (polled.Answered answered) is) finishes
    receives_on old call can (MakesPoll NeedSignal signalled answered again finishes) is = absurd again
    receives_on old call can (MakesPoll {reply = reply} {ticket = ticket} (Park same) signalled answered again finishes) is =
        let waiting = subst (λ t. after_poll ticket reply (Park t)) again answered in
        waits signalled ticket (λ later result end polls to. can ((Poll ticket, reply) ∷ later) result end
        (polled.Pending waiting polls) (then_made old ((Poll ticket, reply) ∷ []) later to is))
        (finishes.0 ∙ ap Some again) finishes.1
    receives_on old call can (MakesPoll {reply = reply} {ticket = ticket} (Refused same) signalled answered again finishes) is =
        let refused = subst (λ t. after_poll ticket reply (Refused t)) again answered in
        settles (finishes.0 ∙ ap Some again) finishes.1 (λ later result end polls to.
        can ((Poll ticket, reply) ∷ later) result end (polled.OutOfMemory refused polls)
        (then_made old ((Poll ticket, reply) ∷ []) later to is))

  -- a receive that leaves
  pub leaves : {S : Type 0} {start old new : P T A} (call : Option ℕ) (turn : AgainReceive S) (result : Result T RecvTimeoutError)
      → Some turn ≡ option_map (λ call. record { call = call; last = true; signal = None }) call
      → Did has_added (IsOneStep (step_of_parked_receive turn.call turn.last) (after_parked_receive turn.call turn.last)) old (Done result) new
      → CanReceive start call old → HasEndedReceive start new result
  leaves None turn result is did can = absurd (let none : ⊥ = cc in none)
  leaves {S = S} {start = start} {old = old} {new = new} (Some ticket) turn result is did can =
      let same : turn ≡ record { call = ticket; last = true; signal = None } = cc in
      let made = has_stepped {step = Withdraw ticket} {table = after_withdraw} (subst (λ (turn : AgainReceive S).
      Did has_added (IsOneStep (step_of_parked_receive turn.call turn.last) (after_parked_receive turn.call turn.last)) old (Done result) new)
      same did) in
      can _ result new (polled.Left made.answered) made.made

  -- what it got
  pub left_calls : {start now : P T A} (result : Result T RecvTimeoutError) → HasEndedReceive start now result
      → HasMadeCalls start now [] (got_if (result_ok result))
  left_calls {start = start} {now = now} result did =
      subst (HasMadeCalls start now []) (got_ok result) (received_calls did)

  pub left_message : {start now : P T A} {message : T} (result : Result T RecvTimeoutError)
      → HasEndedReceive start now result → result_ok result ≡ Some message → HasEndedReceive start now (Ok message)
  left_message {start = start} {now = now} {message = message} (Ok got) did is =
      let same : got ≡ message = cc in subst (λ m. HasEndedReceive start now (Ok m)) same did
  left_message (Err error) did is = absurd (let none : ⊥ = cc in none)
