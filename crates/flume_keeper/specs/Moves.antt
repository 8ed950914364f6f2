-- Which turns of one step, and which polls, move messages.
use Rattle.std.specs.Prelude.{◌≡◌, ℕ, ◌&&◌, Bool, true, false, List, [], ◌∷◌, if◌then◌else◌, Option}
use Rattle.std.specs.Prelude.{Result}
use mathlib.Core.Path.{refl, sym, subst}
use Rattle.flume_model.specs.declared.step.Kind.{Kind}
use Rattle.flume_model.specs.declared.step.Step.{Step}
use Rattle.flume_model.specs.declared.step.Reply.{Reply}
use Rattle.flume_party.specs.Owners.{AreOwned, AreUnowned}
use Rattle.flume_core.specs.declared.error.SendError.{SendError}
use Rattle.flume_core.specs.declared.error.RecvError.{RecvError}
use Rattle.flume_calls.specs.Batches.{IsOneStep}
use Rattle.flume_calls.specs.Singles.{end_step, count_query_step, flag_query_step}
use Rattle.flume_calls.specs.SendTurns.{step_of_parked_send}
use Rattle.flume_calls.specs.ReceiveTurns.{step_of_parked_receive}
use Rattle.flume_calls.specs.PolledSends as send
use Rattle.flume_calls.specs.PolledSends.{SendPollSteps}
use Rattle.flume_calls.specs.PolledReceives as receive
use Rattle.flume_calls.specs.PolledReceives.{ReceivePollSteps}
use Rattle.flume_calls.specs.declared.polled.send.PolledSend.{PolledSend}
use Rattle.flume_calls.specs.declared.single.EndStep.{EndStep}
use Rattle.flume_calls.specs.declared.single.EndStep.TheVariants as end
use Rattle.flume_calls.specs.declared.single.CountQuery.{CountQuery}
use Rattle.flume_calls.specs.declared.single.CountQuery.TheVariants as number
use Rattle.flume_calls.specs.declared.single.FlagQuery.{FlagQuery}
use Rattle.flume_calls.specs.declared.single.FlagQuery.TheVariants as flag
use Rattle.flume_actions.specs.Actions.{Action, moves_message, is_of_party}
use Rattle.flume_keeper.specs.Keeps.{MovesMessages, MovesNone}

module _ {T A : Type 0} where
  -- some action was made
  abbrev IsSome : List (Action T A) → Type 0
  IsSome [] = ⊥
  IsSome (action ∷ actions) = Unit {0}

module _ {T A N : Type 0} {step : Step T} {table : Reply T A → N → Type 0} where
  -- a turn of one step that sends or receives
  abbrev pub step_moves : moves_message step ≡ true → MovesMessages (IsOneStep step table)
  step_moves moves made answer is =
      subst (λ steps. AreOwned is_of_party steps) (sym is.is) (λ i. moves i && true)

  -- a turn of one step that neither sends nor receives
  abbrev pub step_moves_none : moves_message step ≡ false → MovesNone (IsOneStep step table)
  step_moves_none moves made answer is =
      subst (λ steps. AreUnowned is_of_party steps) (sym is.is) (record {
        some = λ none. subst IsSome none tt;
        unowned = λ i. if moves i then (step, is.reply) ∷ [] else [];
      })

module _ (T : Type 0) where
  -- each turn of a parked send
  abbrev pub parked_send_moves : (ticket : ℕ) (last : Bool)
      → moves_message (step_of_parked_send {T = T} ticket last) ≡ true
  parked_send_moves ticket false = refl
  parked_send_moves ticket true = refl

  -- each turn of a parked receive
  abbrev pub parked_receive_moves : (ticket : ℕ) (last : Bool)
      → moves_message (step_of_parked_receive {T = T} ticket last) ≡ true
  parked_receive_moves ticket false = refl
  parked_receive_moves ticket true = refl

  -- a clone or a drop of an end
  abbrev pub end_step_moves_none : (turn : EndStep) → moves_message (end_step {T = T} turn) ≡ false
  end_step_moves_none end.CloneSender = refl
  end_step_moves_none end.CloneReceiver = refl
  end_step_moves_none end.DropSender = refl
  end_step_moves_none end.DropReceiver = refl

  -- a query for a number
  abbrev pub count_query_moves_none : (query : CountQuery)
      → moves_message (count_query_step {T = T} query) ≡ false
  count_query_moves_none number.Len = refl
  count_query_moves_none number.SenderCount = refl
  count_query_moves_none number.ReceiverCount = refl

  -- a query for a flag
  abbrev pub flag_query_moves_none : (query : FlagQuery)
      → moves_message (flag_query_step {T = T} query) ≡ false
  flag_query_moves_none flag.IsEmpty = refl
  flag_query_moves_none flag.IsFull = refl
  flag_query_moves_none flag.IsDisconnected = refl

module _ {T A : Type 0} where
  -- a poll of a send
  pub send_poll_moves : {send after : PolledSend T} {made : List (Action T A)}
      {answer : Option (Result (Unit {0}) (SendError T))} → SendPollSteps after answer send made
      → AreOwned is_of_party made
  send_poll_moves (send.MakesNone finished ok) = refl
  send_poll_moves (send.MakesTry next answered first finishes) = refl
  send_poll_moves (send.MakesSend next answered parking finishes) = refl
  send_poll_moves (send.MakesPoll {ticket = ticket} next last answered again finishes) =
      λ i. parked_send_moves T ticket last i && true

  -- a poll of a receive
  pub receive_poll_moves : {kind : Kind} {call after : Option ℕ} {made : List (Action T A)}
      {answer : Option (Result T RecvError)} → ReceivePollSteps kind after answer call made
      → AreOwned is_of_party made
  receive_poll_moves (receive.MakesTry next answered first finishes) = refl
  receive_poll_moves (receive.MakesRecv next answered parking finishes) = refl
  receive_poll_moves (receive.MakesNone kept said) = refl
  receive_poll_moves (receive.MakesPoll next signalled answered again finishes) = refl
