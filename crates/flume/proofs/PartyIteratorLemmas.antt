-- What a party did by a `next` of its iterator, as calls.
use Rattle.std.proofs.Common.{◌≡◌, ◌+◌, true, false, [], Option, None, option_to_list, Result, Ok, Err, refl, sym, ap, ◌∙◌, subst}
use Rattle.std.specs.Result.{result_ok}
use Rattle.flume_core.specs.declared.error.RecvTimeoutError.{RecvTimeoutError}
use Rattle.flume_actions.specs.Calls.{HasCalled, HasReceived, got_by}
use Rattle.flume_actions.specs.Callers.{HasMadeCalls}
use Rattle.flume_actions.proofs.CallerLemmas.{no_call, and_call}
use Rattle.flume.specs.Iterators.{IterValue, DeadlineIterValue, IsNextInTime}
use Rattle.flume.specs.PartySteps.{ReceivesOf}
use Rattle.flume.specs.PartyIterators.{ReceivesItem, TriesItem, ReceivesUntil, TooLate, Received, ReceivesItemUntil}
use Rattle.flume.specs.PartyIterators.{IsTracedNext, IsTracedTryNext, IsTracedNextInTime}
use Rattle.flume.specs.TracedSends.{has_added}
use Rattle.flume.proofs.TracedLemmas.{P, has_received, has_stepped}
use Rattle.flume.proofs.TracedCallLemmas.{received_called, untimed_received_called, try_received_called}

module _ {T : Type 0} where
  item_got : {E : Type 0} (answer : Result T E) → got_by answer ≡ option_to_list (result_ok answer)
  item_got (Ok message) = refl
  item_got (Err error) = refl

module _ {T A : Type 0} where
  item_called : {E : Type 0} {old new : P T A} {item : Option T} (answer : Result T E) → item ≡ result_ok answer
      → HasCalled old new [] (got_by answer) → HasCalled old new [] (option_to_list item)
  item_called {old = old} {new = new} answer is called =
      subst (λ got. HasCalled old new [] got) (item_got answer ∙ ap option_to_list (sym is)) called

  -- a `next` that waits
  pub traced_next : (old new : IterValue (P T A)) (item : Option T) → new.channel ≡ old.channel
      → old.calls_left ≡ new.calls_left + 1 → (new.fault ≡ true → item ≡ None)
      → ReceivesItem has_added old.party item new.fault new.party → IsTracedNext old item new
  traced_next old new item channel calls_left fault got =
      let made = has_received got.made in
      record {
        next = record { channel = channel; calls_left = calls_left; fault = fault; received = got.received };
        called = item_called got.received.answer got.received.item_is (untimed_received_called got.received.answer made);
        made = made;
      }

  -- a `next` that doesn't wait
  pub traced_try_next : (old new : IterValue (P T A)) (item : Option T) → new.channel ≡ old.channel
      → old.calls_left ≡ new.calls_left + 1 → new.fault ≡ false → TriesItem has_added old.party item new.party
      → IsTracedTryNext old item new
  traced_try_next old new item channel calls_left no_fault got =
      let made = has_stepped got.made in
      record {
        next = record { channel = channel; calls_left = calls_left; no_fault = no_fault; tried = got.tried };
        called = item_called got.tried.answer got.tried.item_is (try_received_called got.tried.answer made);
        made = made;
      }

  party_receives : {old new : P T A} (answer : Result T RecvTimeoutError)
      → ReceivesUntil (ReceivesOf has_added) old new answer → ReceivesUntil HasReceived old new answer
  party_receives answer (TooLate late same) = TooLate late same
  party_receives answer (Received made) = Received (has_received made)

  calls_until : {old new : P T A} (answer : Result T RecvTimeoutError) → ReceivesUntil HasReceived old new answer
      → HasMadeCalls old new [] (got_by answer)
  calls_until {old = old} answer (TooLate late same) =
      subst (λ party. HasMadeCalls old party [] (got_by answer)) (sym same)
      (subst (λ answer. HasMadeCalls old old [] (got_by answer)) (sym late) (no_call old))
  calls_until {old = old} answer (Received made) = and_call (no_call old) (received_called answer made) refl refl

  -- a `next` up to a deadline
  pub traced_next_until : (old new : DeadlineIterValue (P T A)) (item : Option T) → IsNextInTime A old item new
      → ReceivesItemUntil (ReceivesOf has_added) old item new → IsTracedNextInTime old item new
  traced_next_until old new item next got =
      let made = party_receives got.answer got.made in
      record {
        next = next;
        called = subst (λ got. HasMadeCalls old.party new.party [] got)
            (item_got got.answer ∙ ap option_to_list (sym got.item_is)) (calls_until got.answer made);
        made = record { answer = got.answer; made = made; item_is = got.item_is; end_is = got.end_is };
      }
