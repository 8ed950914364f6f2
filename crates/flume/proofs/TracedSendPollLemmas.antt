-- What a send that is a future with a party did, from poll to poll.
use Rattle.std.proofs.Common.{◌≡◌, ℕ, true, false, Option, Some, None, List, [], ◌∷◌, Result, Ok, Err}
use Rattle.std.proofs.Common.{refl, sym, ap, ◌∙◌, subst}
use Rattle.flume_model.specs.declared.step.Step.TheVariants.{Send, PollSend, WithdrawSend}
use Rattle.flume_core.specs.declared.error.SendError.{SendError}
use Rattle.flume_core.specs.declared.error.SendTimeoutError.{SendTimeoutError}
use Rattle.flume_core.specs.declared.error.SendTimeoutError.TheVariants as timed
use Rattle.flume_calls.specs.declared.calls.send.SendNext.TheVariants.{Done, NeedSignal, Park}
use Rattle.flume_calls.specs.declared.polled.send.PolledSend.{PolledSend}
use Rattle.flume_calls.specs.declared.polled.send.PolledSend.TheVariants.{Unsent, Parked}
use Rattle.flume_calls.specs.SendTurns.{after_poll_send, after_withdraw_send}
use Rattle.flume_calls.specs.PolledSends.{SendPollSteps, finishes_send, MakesNone, MakesTry, MakesSend, MakesPoll}
use Rattle.flume_party.specs.Parties.{PartyState, and_made}
use Rattle.flume_actions.specs.Actions.{Action}
use Rattle.flume_actions.specs.SendCalls as polled
use Rattle.flume_actions.specs.Calls.{TriesToSend, PollsToSend, sent_by}
use Rattle.flume_actions.specs.Callers.{HasMadeCalls}
use Rattle.flume_actions.proofs.CallerLemmas.{and_call}
use Rattle.flume.specs.EndedCalls.{EndsSend, SentByTry, SentByPolls, HasEndedSend, GivesSend}
use Rattle.flume.specs.TracedPolls.{CanSend}
use Rattle.flume.specs.PartySteps.{DidStep}
use Rattle.flume.specs.TracedSends.{has_added}
use Rattle.flume.proofs.TracedLemmas.{has_stepped, then_made}

-- a party, by its actions
abbrev P : Type 0 → Type 0 → Type 0
P T A = PartyState (Action T A)

-- a parked send isn't unsent
pub not_unsent : {T : Type 0} {ticket : ℕ} {message : T} → Parked ticket ≡ Unsent message → ⊥
not_unsent is = cc

module _ {T A : Type 0} where
  -- a send that ended is a whole call, behind others that sent nothing
  pub sent_calls : {start now : P T A} {message : T} {result : Result (Unit {0}) (SendTimeoutError T)}
      → HasEndedSend start message now result → HasMadeCalls start now (sent_by message result) []
  sent_calls {start = start} {message = message} did = by_end did.ends did.made
    where
      by_end : {actions : List (Action T A)} {result : Result (Unit {0}) (SendTimeoutError T)} → EndsSend message actions result
          → {now : P T A} → now ≡ and_made did.between actions → HasMadeCalls start now (sent_by message result) []
      by_end (SentByTry {result = result} answered) made =
          and_call did.before (record { actions = _; call = TriesToSend (Done result) answered; made = made }) refl refl
      by_end (SentByPolls polls) made =
          and_call did.before (record { actions = _; call = PollsToSend polls; made = made }) refl refl

  -- a send that ended so
  pub send_ended : {start old new : P T A} {message offered : T} {actions : List (Action T A)}
      {result : Result (Unit {0}) (SendTimeoutError T)} → CanSend start message (Unsent offered) old
      → EndsSend offered actions result → new ≡ and_made old actions → HasEndedSend start message new result
  send_ended {start = start} {old = old} {new = new} {result = result} can ends made =
      subst (λ m. HasEndedSend start m new result) can.0
      (record { between = old; before = can.1; actions = _; ends = ends; made = made })

  module _ (start new : P T A) (message : T) where
    -- what a future may still do after a poll with this answer
    abbrev pub SendsOn : PolledSend T → Option (Result (Unit {0}) (SendError T)) → Type 0
    SendsOn after (Some result) = GivesSend start message new result
    SendsOn after None = CanSend start message after new

    module _ (after : PolledSend T) (answer : Option (Result (Unit {0}) (SendError T))) where
      -- by the answer and the state
      settles : {said : Option (Result (Unit {0}) (SendError T))} {to : PolledSend T} → after ≡ to → answer ≡ said
          → SendsOn to said → SendsOn after answer
      settles {said = said} is says on =
          subst (λ said. SendsOn after said) (sym says) (subst (λ to. SendsOn to said) (sym is) on)

      -- a send that ends
      ends : (result : Result (Unit {0}) (SendTimeoutError T)) → HasEndedSend start message new result
          → finishes_send (Done result) after answer → SendsOn after answer
      ends (Ok sent) did finishes = settles finishes.0 finishes.1 (record { called = sent_calls did; ended = did })
      ends (Err (timed.Disconnected back)) did finishes =
          settles finishes.0 finishes.1 (record { called = sent_calls did; ended = did })
      ends (Err (timed.NoMemory back)) did finishes =
          settles finishes.0 finishes.1 (record { called = sent_calls did; ended = sent_calls did })
      ends (Err (timed.Timeout back)) did finishes =
          settles finishes.0 finishes.1 (record { called = sent_calls did; ended = sent_calls did })

      -- a poll of a send
      pub sends_on : (old : P T A) (send : PolledSend T) {made : List (Action T A)} → CanSend start message send old
          → SendPollSteps after answer send made → new ≡ and_made old made → SendsOn after answer
      sends_on old send can (MakesNone finished ok) is = absurd can
      sends_on old send can (MakesTry (Done result) answered first finishes) is =
          ends result (send_ended can (SentByTry answered) is) finishes
      sends_on old send can (MakesTry (NeedSignal back) answered first finishes) is =
          let calls = and_call can.1 (record { actions = _; call = TriesToSend (NeedSignal back) answered; made = is }) refl refl in
          settles finishes.0 finishes.1 (record { called = calls; ended = calls })
      sends_on old send can (MakesTry (Park ticket) answered first finishes) is = absurd first
      sends_on old send can (MakesSend (Done result) answered parking finishes) is =
          ends result (send_ended can (SentByPolls (polled.AtOnce answered)) is) finishes
      sends_on old send can (MakesSend (NeedSignal back) answered parking finishes) is = absurd parking
      sends_on old send can (MakesSend {message = offered} {reply = reply} (Park ticket) answered parking finishes) is =
          settles finishes.0 finishes.1 (λ later result end polls to.
          send_ended can (SentByPolls (polled.Polled answered polls)) (then_made old ((Send offered, reply) ∷ []) later to is))
      sends_on old send can (MakesPoll (Done result) false answered again finishes) is =
          ends result (can _ result new (polled.Answered answered) is) finishes
      sends_on old send can (MakesPoll (Done result) true answered again finishes) is =
          ends result (can _ result new (polled.Left answered) is) finishes
      sends_on old send can (MakesPoll (NeedSignal back) false answered again finishes) is = absurd again
      sends_on old send can (MakesPoll (NeedSignal back) true answered again finishes) is = absurd again
      sends_on old send can (MakesPoll {ticket = ticket} {reply = reply} (Park same) false answered again finishes) is =
          let waiting = subst (λ t. after_poll_send ticket reply (Park t)) again answered in
          settles (finishes.0 ∙ ap Parked again) finishes.1 (λ later result end polls to.
          can ((PollSend ticket, reply) ∷ later) result end (polled.Pending waiting polls)
          (then_made old ((PollSend ticket, reply) ∷ []) later to is))
      sends_on old send can (MakesPoll (Park same) true answered again finishes) is = absurd again

  -- a parked send that withdraws
  pub takes_back : {start old new : P T A} {message : T} {ticket : ℕ} (result : Result (Unit {0}) (SendTimeoutError T))
      → CanSend start message (Parked ticket) old → DidStep has_added (WithdrawSend ticket) after_withdraw_send old (Done result) new
      → HasMadeCalls start new (sent_by message result) []
  takes_back {new = new} result can did =
      let made = has_stepped did in sent_calls (can _ result new (polled.Left made.answered) made.made)
