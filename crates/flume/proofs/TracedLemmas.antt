-- What a call of a party did, as its actions.
use Rattle.std.proofs.Common.{◌≡◌, ℕ, true, List, [], ◌∷◌, ◌++◌, Result}
use Rattle.std.proofs.Common.{sym, ap, ◌∙◌, subst, append_assoc}
use Rattle.flume_model.specs.declared.step.Step.{Step}
use Rattle.flume_model.specs.declared.step.Kind.TheVariants.{Block}
use Rattle.flume_model.specs.declared.step.Step.TheVariants.{TrySend, Send, PollSend, WithdrawSend}
use Rattle.flume_model.specs.declared.step.Step.TheVariants.{TryRecv, Recv, Poll, Withdraw}
use Rattle.flume_model.specs.declared.step.Reply.{Reply}
use Rattle.flume_core.specs.declared.error.SendTimeoutError.{SendTimeoutError}
use Rattle.flume_core.specs.declared.error.RecvTimeoutError.{RecvTimeoutError}
use Rattle.flume_calls.specs.declared.calls.send.SendNext.TheVariants as send_next
use Rattle.flume_calls.specs.declared.calls.receive.RecvNext.TheVariants as recv_next
use Rattle.flume_calls.specs.SendTurns.{after_poll_send}
use Rattle.flume_calls.specs.ReceiveTurns.{after_poll}
use Rattle.flume_calls.specs.SendGates as send
use Rattle.flume_calls.specs.ReceiveGates as receive
use Rattle.flume_party.specs.Parties.{PartyState, party_of, and_made}
use Rattle.flume_actions.specs.Actions.{Action}
use Rattle.flume_actions.specs.SendCalls as sends
use Rattle.flume_actions.specs.ReceiveCalls as receives
use Rattle.flume_actions.specs.Calls.{HasSent, HasReceived, HasStepped}
use Rattle.flume.specs.TracedSends.{has_added}
use Rattle.flume.specs.PartySteps.{DidStep, Same, AgainSendOf, SendsOf}
use Rattle.flume.specs.PartySteps.{AgainReceiveOf, ReceivesOf}

-- a party, by its actions
abbrev pub P : Type 0 → Type 0 → Type 0
P T A = PartyState (Action T A)

module _ {T A : Type 0} where
  -- actions after others
  pub then_made : {between new : P T A} (old : P T A) (some more : List (Action T A))
      → new ≡ and_made between more → between ≡ and_made old some
      → new ≡ and_made old (some ++ more)
  then_made old some more later before =
      later ∙ (ap (λ party. and_made party more) before
      ∙ ap (λ actions. party_of old.parts actions) (append_assoc old.actions some more))

  -- one step
  pub has_stepped : {N : Type 0} {step : Step T} {table : Reply T A → N → Type 0} {old new : P T A} {answer : N}
      → DidStep has_added step table old answer new → HasStepped step table old answer new
  has_stepped {old = old} did = record {
    reply = did.answered.reply;
    answered = did.answered.answered;
    made = did.made ∙ ap (λ steps. and_made old steps) did.answered.is;
  }

  -- what a blocked send did
  record Blocked (ticket : ℕ) (old new : P T A) (result : Result (Unit {0}) (SendTimeoutError T)) : Type 0 where
    actions : List (Action T A)
    send : sends.IsBlockedSend ticket actions result
    made : new ≡ and_made old actions

  blocked : {old new : P T A} {ticket : ℕ} {result : Result (Unit {0}) (SendTimeoutError T)}
      → send.ParkedSend (AgainSendOf has_added) (Same has_added) old ticket new result → Blocked ticket old new result
  blocked (send.Asked asks) =
      let ends = has_stepped asks.turn in
      record { actions = _; send = sends.Ended ends.answered; made = ends.made }
  blocked {old = old} {new = new} {ticket = ticket} {result = result} (send.Expired {waited = waited} asks late ends) =
      let first = has_stepped asks.turn in
      let last = has_stepped (subst (λ t. AgainSendOf has_added waited t true new (send_next.Done result)) asks.answers ends).turn in
      let parks = subst (λ t. after_poll_send ticket first.reply (send_next.Park t)) asks.answers first.answered in
      record {
        actions = _;
        send = sends.Late parks last.answered;
        made = then_made old ((PollSend ticket, first.reply) ∷ []) ((WithdrawSend ticket, last.reply) ∷ [])
            last.made (late ∙ first.made);
      }
  blocked {old = old} {new = new} {ticket = ticket} {result = result} (send.Waited {waited = waited} asks waits rest) =
      let first = has_stepped asks.turn in
      let parks = subst (λ t. after_poll_send ticket first.reply (send_next.Park t)) asks.answers first.answered in
      let later = subst (λ t. Blocked t waited new result) asks.answers (blocked rest) in
      record {
        actions = _;
        send = sends.Waited parks later.send;
        made = then_made old ((PollSend ticket, first.reply) ∷ []) later.actions later.made
            (waits ∙ first.made);
      }

  -- what a send did
  pub has_sent : {old new : P T A} {message : T} {result : Result (Unit {0}) (SendTimeoutError T)}
      → SendsOf has_added old message new result → HasSent old message new result
  has_sent (send.AtFirst tries) =
      let ends = has_stepped tries in
      record { actions = _; send = sends.Tried ends.answered; made = ends.made }
  has_sent {old = old} {new = new} {message = message} (send.NoWaiter finds none is) =
      let full = has_stepped finds in
      subst (λ result. HasSent old message new result) (sym is)
      (record { actions = _; send = sends.Unable full.answered; made = none ∙ full.made })
  has_sent {old = old} {message = message} (send.AtPark finds made ends) =
      let full = has_stepped finds in
      let last = has_stepped ends in
      record {
        actions = _;
        send = sends.NotBlocked full.answered last.answered;
        made = then_made old ((TrySend message, full.reply) ∷ []) ((Send message, last.reply) ∷ [])
            last.made (made ∙ full.made);
      }
  has_sent {old = old} {message = message} (send.Parked {made = between} finds made parks rest) =
      let full = has_stepped finds in
      let parked = has_stepped parks in
      let later = blocked rest in
      record {
        actions = _;
        send = sends.Blocked full.answered parked.answered later.send;
        made = then_made old ((TrySend message, full.reply) ∷ [])
            ((Send message, parked.reply) ∷ later.actions)
            (then_made between ((Send message, parked.reply) ∷ []) later.actions later.made parked.made)
            (made ∙ full.made);
      }

  -- what a parked receive did
  record Parked (ticket : ℕ) (old new : P T A) (result : Result T RecvTimeoutError) : Type 0 where
    actions : List (Action T A)
    receive : receives.IsParkedReceive ticket actions result
    made : new ≡ and_made old actions

  parked : {old new : P T A} {ticket : ℕ} {result : Result T RecvTimeoutError}
      → receive.ParkedReceive (AgainReceiveOf has_added) (Same has_added) old ticket new result → Parked ticket old new result
  parked (receive.Asked asks) =
      let ends = has_stepped asks.turn in
      record { actions = _; receive = receives.Ended ends.answered; made = ends.made }
  parked {old = old} {new = new} {ticket = ticket} (receive.Withdrawn {asked = asked} {answer = answer} asks ends is) =
      let first = has_stepped asks.turn in
      let last = has_stepped (subst (λ t. AgainReceiveOf has_added asked t true new (recv_next.Done answer)) asks.answers ends).turn in
      let refused = subst (λ t. after_poll ticket first.reply (recv_next.Refused t)) asks.answers first.answered in
      subst (λ result. Parked ticket old new result) (sym is)
      (record {
        actions = _;
        receive = receives.Refused answer refused last.answered;
        made = then_made old ((Poll ticket, first.reply) ∷ []) ((Withdraw ticket, last.reply) ∷ [])
            last.made first.made;
      })
  parked {old = old} {new = new} {ticket = ticket} {result = result} (receive.Expired {waited = waited} asks late ends) =
      let first = has_stepped asks.turn in
      let last = has_stepped (subst (λ t. AgainReceiveOf has_added waited t true new (recv_next.Done result)) asks.answers ends).turn in
      let parks = subst (λ t. after_poll ticket first.reply (recv_next.Park t)) asks.answers first.answered in
      record {
        actions = _;
        receive = receives.Late parks last.answered;
        made = then_made old ((Poll ticket, first.reply) ∷ []) ((Withdraw ticket, last.reply) ∷ [])
            last.made (late ∙ first.made);
      }
  parked {old = old} {new = new} {ticket = ticket} {result = result} (receive.Waited {waited = waited} asks waits rest) =
      let first = has_stepped asks.turn in
      let parks = subst (λ t. after_poll ticket first.reply (recv_next.Park t)) asks.answers first.answered in
      let later = subst (λ t. Parked t waited new result) asks.answers (parked rest) in
      record {
        actions = _;
        receive = receives.Waited parks later.receive;
        made = then_made old ((Poll ticket, first.reply) ∷ []) later.actions later.made
            (waits ∙ first.made);
      }

  -- what a receive did
  pub has_received : {old new : P T A} {result : Result T RecvTimeoutError}
      → ReceivesOf has_added old new result → HasReceived old new result
  has_received (receive.AtFirst tries) =
      let ends = has_stepped tries in
      record { actions = _; receive = receives.Tried ends.answered; made = ends.made }
  has_received {old = old} {new = new} (receive.NoWaiter finds none is) =
      let empty = has_stepped finds in
      subst (λ result. HasReceived old new result) (sym is)
      (record { actions = _; receive = receives.Unable empty.answered; made = none ∙ empty.made })
  has_received {old = old} (receive.AtPark finds made ends) =
      let empty = has_stepped finds in
      let last = has_stepped ends in
      record {
        actions = _;
        receive = receives.NotParked empty.answered last.answered;
        made = then_made old ((TryRecv, empty.reply) ∷ []) ((Recv Block, last.reply) ∷ [])
            last.made (made ∙ empty.made);
      }
  has_received {old = old} (receive.Parked {made = between} finds made parks rest) =
      let empty = has_stepped finds in
      let parks = has_stepped parks in
      let later = parked rest in
      record {
        actions = _;
        receive = receives.Parked empty.answered parks.answered later.receive;
        made = then_made old ((TryRecv, empty.reply) ∷ []) ((Recv Block, parks.reply) ∷ later.actions)
            (then_made between ((Recv Block, parks.reply) ∷ []) later.actions later.made parks.made)
            (made ∙ empty.made);
      }
