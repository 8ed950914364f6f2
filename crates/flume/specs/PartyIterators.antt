-- What a party did by a `next` of its iterator.
use Rattle.std.specs.Prelude.{◌≡◌, Bool, List, [], Option, option_to_list, Result, Err}
use Rattle.std.specs.Result.{result_ok, result_err}
use Rattle.flume_model.specs.declared.step.Step.TheVariants.{TryRecv}
use Rattle.flume_core.specs.declared.error.RecvTimeoutError.{RecvTimeoutError}
use Rattle.flume_core.specs.declared.error.RecvTimeoutError.TheVariants.{Timeout}
use Rattle.flume_calls.specs.ReceiveTurns.{after_try_recv}
use Rattle.flume_party.specs.Parties.{PartyState}
use Rattle.flume_actions.specs.Actions.{Action}
use Rattle.flume_actions.specs.Calls as call
use Rattle.flume_actions.specs.Calls.{HasCalled, HasStepped}
use Rattle.flume_actions.specs.Callers.{HasMadeCalls}
use Rattle.flume.specs.CallSteps.{receive_as_timed, try_receive_as_turn}
use Rattle.flume.specs.Iterators.{HasReceived, HasTried, IterValue, DeadlineIterValue}
use Rattle.flume.specs.Iterators.{IsNext, IsTryNext, IsNextInTime}
use Rattle.flume.specs.PartySteps.{FirstReceiveOf, ReceivesOf}

-- `receives` says what a party did by a receive with this result
module _ {T P : Type 0} (receives : P → P → Result T RecvTimeoutError → Type 0) where
  -- a receive by a party that looks at the clock first
  pub data ReceivesUntil (old new : P) (answer : Result T RecvTimeoutError) : Type 0 where
    -- the party did nothing
    TooLate : answer ≡ Err Timeout → new ≡ old → ReceivesUntil old new answer
    Received : receives old new answer → ReceivesUntil old new answer

  -- such a receive, whose answer has this item and is why the iterator ends
  pub record ReceivesItemUntil (old : DeadlineIterValue P) (item : Option T)
      (new : DeadlineIterValue P) : Type 0 where
    pub answer : Result T RecvTimeoutError
    pub made : ReceivesUntil old.party new.party answer
    pub item_is : item ≡ result_ok answer
    pub end_is : new.end ≡ result_err answer

-- `did` is what the keeper says: that a party made these steps, with these replies
module _ {T A P : Type 0} (did : P → List (Action T A) → P → Type 0) where
  -- the party made a `recv`, whose answer has this item and tells whether there is a fault
  pub record ReceivesItem (old : P) (item : Option T) (fault : Bool) (new : P) : Type 0 where
    pub received : HasReceived A item fault
    pub made : ReceivesOf did old new (receive_as_timed received.answer)

  -- the party made a `try_recv`, whose answer has this item
  pub record TriesItem (old : P) (item : Option T) (new : P) : Type 0 where
    pub tried : HasTried A item
    pub made : FirstReceiveOf did old new (try_receive_as_turn tried.answer)

module _ {T A : Type 0} where
  -- one `next` of a traced iterator that waits: a `recv` of its party
  pub record IsTracedNext (old : IterValue (PartyState (Action T A))) (item : Option T)
      (new : IterValue (PartyState (Action T A))) : Type 0 where
    pub next : IsNext A old item new
    pub called : HasCalled old.party new.party [] (option_to_list item)
    pub made : call.HasReceived old.party new.party (receive_as_timed next.received.answer)

  -- one `next` of a traced iterator that doesn't wait: a `try_recv` of its party
  pub record IsTracedTryNext (old : IterValue (PartyState (Action T A))) (item : Option T)
      (new : IterValue (PartyState (Action T A))) : Type 0 where
    pub next : IsTryNext A old item new
    pub called : HasCalled old.party new.party [] (option_to_list item)
    pub made : HasStepped TryRecv after_try_recv old.party
        (try_receive_as_turn next.tried.answer) new.party

  -- one `next` of a traced iterator that ends at a deadline: a receive of its party, or no call
  pub record IsTracedNextInTime (old : DeadlineIterValue (PartyState (Action T A)))
      (item : Option T) (new : DeadlineIterValue (PartyState (Action T A))) : Type 0 where
    pub next : IsNextInTime A old item new
    pub called : HasMadeCalls old.party new.party [] (option_to_list item)
    pub made : ReceivesItemUntil call.HasReceived old item new
