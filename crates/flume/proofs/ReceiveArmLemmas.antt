-- What the party of a receive arm did, from turn to turn.
use Rattle.std.proofs.Common.{◌≡◌, ℕ, Bool, true, false, Option, Some, None, List, [], ◌∷◌, ◌++◌, Result, Ok, Err}
use Rattle.std.proofs.Common.{refl, sym, ap, ◌∙◌, subst, append_assoc, inl, inr}
use Rattle.std.specs.Result.{result_ok}
use Rattle.flume_model.specs.declared.step.Kind.TheVariants.{Arm}
use Rattle.flume_model.specs.declared.step.Step.TheVariants.{TryRecv, Recv, Poll, Withdraw}
use Rattle.flume_model.specs.declared.step.Reply.{Reply}
use Rattle.flume_model.specs.declared.step.Reply.TheVariants as said
use Rattle.flume_core.specs.declared.error.RecvTimeoutError.{RecvTimeoutError}
use Rattle.flume_core.specs.declared.error.RecvTimeoutError.TheVariants as timed
use Rattle.flume_calls.specs.declared.calls.receive.RecvNext.{RecvNext}
use Rattle.flume_calls.specs.declared.calls.receive.RecvNext.TheVariants.{Done, NeedSignal, Park, Refused}
use Rattle.flume_calls.specs.declared.gates.select.ArmNext.{ArmNext}
use Rattle.flume_calls.specs.declared.gates.select.ArmNext.TheVariants as next
use Rattle.flume_calls.specs.ReceiveTurns.{after_try_recv, after_recv, after_poll, after_withdraw, IsFirstAnswer}
use Rattle.flume_calls.specs.ReceiveTurns.{IsParkingAnswer, IsPollAnswer}
use Rattle.flume_party.specs.Parties.{PartyState, and_made}
use Rattle.flume_actions.specs.Actions.{Action, IsPart}
use Rattle.flume_actions.specs.ReceiveCalls as polled
use Rattle.flume_core.specs.declared.error.RecvError.{RecvError}
use Rattle.flume_core.specs.declared.error.RecvError.TheVariants as received
use Rattle.flume_actions.specs.Calls.{TriesToReceive, got_by}
use Rattle.flume_actions.specs.Callers.{HasMadeCalls}
use Rattle.flume.specs.ArmStates.{IsAfterReceive, receive_result}
use Rattle.flume.specs.EndedCalls.{ReceivedByTry, ReceivedByPolls, HasEndedReceive, GivesReceive}
use Rattle.flume.specs.ArmParties.{ReceiveTurnOf, WithdrawsReceiveOf}
use Rattle.flume.specs.TracedArms.{CanReceiveArm, HasNoMessage, HasParkedArm}
use Rattle.flume.specs.declared.select.receive.ReceiveState.{ReceiveState}
use Rattle.flume.specs.declared.select.receive.ReceiveState.TheVariants as receiving
use Rattle.flume.specs.TracedSends.{has_added}
use Rattle.flume.proofs.TracedLemmas.{has_stepped, then_made}
use Rattle.flume.proofs.TracedReceivePollLemmas.{one_more, received_calls, got_answer}
use Rattle.flume.proofs.UnfilledArmLemmas.{never_handed}

-- a party, by its actions
abbrev P : Type 0 → Type 0 → Type 0
P T A = PartyState (Action T A)

module _ {T : Type 0} where
  -- the state that a turn leads to
  abbrev pub leads : RecvNext T → ReceiveState T
  leads (Park ticket) = receiving.Parked ticket
  leads NeedSignal = receiving.Unstarted
  leads (Done (Ok message)) = receiving.Completed (Some message)
  leads (Done (Err timed.Disconnected)) = receiving.Completed None
  leads (Done (Err other)) = receiving.Finished
  leads (Refused ticket) = receiving.Finished

  led : (turn : RecvNext T) (answer : ArmNext) (state : ReceiveState T) → IsAfterReceive turn answer state → state ≡ leads turn
  led (Park ticket) next.Waits state is = is
  led NeedSignal next.Waits state is = is
  led (Done (Ok message)) next.Completed state is = is
  led (Done (Err timed.Disconnected)) next.Completed state is = is
  led (Done (Err timed.NoMemory)) next.NoMemory state is = is
  led _ _ state is = absurd is

  -- no message came
  got_none : (result : Result T RecvTimeoutError) → None ≡ result_ok result → got_by result ≡ []
  got_none (Ok message) is = absurd (let none : ⊥ = cc in none)
  got_none (Err error) is = refl

  got_some : (message : T) (result : Result T RecvTimeoutError) → Some message ≡ result_ok result → Done (Ok message) ≡ Done result
  got_some message (Ok other) is = let same : message ≡ other = cc in ap (λ m. Done (Ok m)) same
  got_some message (Err error) is = absurd (let none : ⊥ = cc in none)

module _ {T A : Type 0} where
  parked_reply : (reply : Reply T A) (ticket : ℕ) → after_recv reply (Park ticket) → reply ≡ said.Parked ticket
  parked_reply (said.Parked other) ticket is = let same : other ≡ ticket = cc in ap (λ t. said.Parked t) same
  parked_reply (said.Got message) ticket is = absurd (let none : ⊥ = cc in none)
  parked_reply said.Ended ticket is = absurd (let none : ⊥ = cc in none)
  parked_reply (said.NoMemory back) ticket is = absurd (let none : ⊥ = cc in none)
  parked_reply (said.Spent back) ticket is = absurd (let none : ⊥ = cc in none)
  parked_reply _ ticket none = absurd none

  left_reply : (reply : Reply T A) (message : T) → after_withdraw reply (Done (Ok message)) → reply ≡ said.Got message
  left_reply (said.Got other) message is = let same : other ≡ message = cc in ap (λ m. said.Got m) same
  left_reply (said.Gone true filled) message is = absurd (let none : ⊥ = cc in none)
  left_reply (said.Gone false filled) message is = absurd (let none : ⊥ = cc in none)
  left_reply said.NoTicket message is = absurd (let none : ⊥ = cc in none)
  left_reply _ message none = absurd none

  -- the party parked before, and did more since
  still_parked : (old new : P T A) {ticket : ℕ} (more : List (Action T A)) → HasParkedArm ticket old.actions → new ≡ and_made old more
      → HasParkedArm ticket new.actions
  still_parked old new more parked made = record {
    before = parked.before;
    later = parked.later ++ more;
    parked = ap (λ party. party.actions) made ∙ (ap (λ actions. actions ++ more) parked.parked
        ∙ append_assoc parked.before ((Recv Arm, said.Parked _) ∷ parked.later) more);
  }

  module _ (start : P T A) where
    -- a result
    ended : {new : P T A} (result : Result T RecvTimeoutError) → HasEndedReceive start new result
        → CanReceiveArm start (leads (Done result)) new
    ended (Ok message) did = did
    ended (Err timed.Disconnected) did = did
    ended (Err timed.NoMemory) did = received_calls did
    ended (Err timed.Timeout) did = received_calls did

    -- a turn that ended the arm, or left it unstarted
    tried : {old new : P T A} (reply : Reply T A) (turn : RecvNext T) → HasMadeCalls start old [] [] → after_try_recv reply turn
        → IsFirstAnswer turn → new ≡ and_made old ((TryRecv, reply) ∷ []) → CanReceiveArm start (leads turn) new
    tried {old = old} reply (Done result) before answered first made =
        ended result (record { between = old; before = before; actions = _; ends = ReceivedByTry answered; made = made })
    tried reply NeedSignal before answered first made = one_more before (TriesToReceive NeedSignal answered) made
    tried reply (Park ticket) before answered first made = absurd first
    tried reply (Refused ticket) before answered first made = absurd first

    -- the first step of an arm that may park
    started : {old new : P T A} (reply : Reply T A) (turn : RecvNext T) → HasMadeCalls start old [] [] → after_recv reply turn
        → IsParkingAnswer turn → new ≡ and_made old ((Recv Arm, reply) ∷ []) → CanReceiveArm start (leads turn) new
    started {old = old} reply (Done result) before answered parking made =
        ended result (record { between = old; before = before; actions = _; ends = ReceivedByPolls (polled.AtOnce answered); made = made })
    started {old = old} reply (Park ticket) before answered parking made = (
      λ later result end polls to. record {
        between = old;
        before = before;
        actions = _;
        ends = ReceivedByPolls (polled.Polled answered polls);
        made = then_made old ((Recv Arm, reply) ∷ []) later to made;
      },
      record {
        before = old.actions;
        later = [];
        parked = ap (λ party. party.actions) made
            ∙ ap (λ reply. old.actions ++ (Recv Arm, reply) ∷ []) (parked_reply reply ticket answered);
      },
    )
    started reply NeedSignal before answered parking made = absurd parking
    started reply (Refused ticket) before answered parking made = absurd parking

    -- a poll of a parked arm
    asked : (old new : P T A) (ticket : ℕ) (reply : Reply T A) (turn : RecvNext T) → CanReceiveArm start (receiving.Parked ticket) old
        → after_poll ticket reply turn → IsPollAnswer ticket turn → new ≡ and_made old ((Poll ticket, reply) ∷ [])
        → (answer : ArmNext) (state : ReceiveState T) → IsAfterReceive turn answer state → CanReceiveArm start (leads turn) new
    asked old new ticket reply (Done result) can answered again made answer state is =
        ended result (can.0 _ result new (polled.Answered answered) made)
    asked old new ticket reply (Park same) can answered again made answer state is =
        let waiting = subst (λ t. after_poll ticket reply (Park t)) again answered in
        subst (λ t. CanReceiveArm start (receiving.Parked t) new) (sym again) (
          λ later result end polls to. can.0 ((Poll ticket, reply) ∷ later) result end (polled.Pending waiting polls)
              (then_made old ((Poll ticket, reply) ∷ []) later to made),
          still_parked old new _ can.1 made,
        )
    asked old new ticket reply NeedSignal can answered again made answer state is = absurd again
    asked old new ticket reply (Refused same) can answered again made answer state is = absurd is

    -- the same state and the same party
    same_arm : {old new : P T A} {state after : ReceiveState T} → after ≡ state → new ≡ old → CanReceiveArm start state old
        → CanReceiveArm start after new
    same_arm {old = old} {after = after} state party can =
        subst (λ party. CanReceiveArm start after party) (sym party) (subst (λ state. CanReceiveArm start state old) (sym state) can)

    -- a turn of a receive arm
    pub receive_turned : (old new : P T A) (parks : Bool) (state : ReceiveState T) (answer : ArmNext) (after : ReceiveState T)
        → CanReceiveArm start state old → ReceiveTurnOf has_added parks state old answer after new → CanReceiveArm start after new
    receive_turned old new true receiving.Unstarted answer after can (inl makes) =
        let step = has_stepped makes.1 in
        subst (λ state. CanReceiveArm start state new) (sym (led makes.0 answer after makes.3))
        (started step.reply makes.0 can step.answered makes.2 step.made)
    receive_turned old new true receiving.Unstarted answer after can (inr none) = same_arm none.0 none.1 can
    receive_turned old new false receiving.Unstarted answer after can makes =
        let step = has_stepped makes.1 in
        subst (λ state. CanReceiveArm start state new) (sym (led makes.0 answer after makes.3))
        (tried step.reply makes.0 can step.answered makes.2 step.made)
    receive_turned old new parks (receiving.Parked ticket) answer after can makes =
        let step = has_stepped makes.1 in
        subst (λ state. CanReceiveArm start state new) (sym (led makes.0 answer after makes.3))
        (asked _ _ ticket step.reply makes.0 can step.answered makes.2 step.made answer after makes.3)
    receive_turned old new parks (receiving.Completed message) answer after can same = same_arm same.0 same.1 can
    receive_turned old new parks receiving.Finished answer after can same = same_arm same.0 same.1 can

    -- a withdrawal that brought no message
    pub receive_withdrew : (old new : P T A) (state : ReceiveState T) (after : ReceiveState T) → CanReceiveArm start state old
        → WithdrawsReceiveOf has_added state old None after new → CanReceiveArm start after new
    receive_withdrew old new (receiving.Parked ticket) after can leaves =
        let step = has_stepped leaves.3 in
        subst (λ state. CanReceiveArm start state new) (sym leaves.2)
        (subst (HasMadeCalls start new []) (got_none leaves.0 leaves.1)
        (received_calls (can.0 _ leaves.0 new (polled.Left step.answered) step.made)))
    receive_withdrew old new receiving.Unstarted after can same = same_arm same.1 same.2 can
    receive_withdrew old new (receiving.Completed message) after can same = same_arm same.1 same.2 can
    receive_withdrew old new receiving.Finished after can same = same_arm same.1 same.2 can

    -- it got nothing, if it had no message before
    pub receive_left : (old new : P T A) (state : ReceiveState T) (after : ReceiveState T) → CanReceiveArm start state old
        → WithdrawsReceiveOf has_added state old None after new → HasNoMessage state → HasMadeCalls start new [] []
    receive_left old new (receiving.Parked ticket) after can leaves none =
        let step = has_stepped leaves.3 in
        subst (HasMadeCalls start new []) (got_none leaves.0 leaves.1)
        (received_calls (can.0 _ leaves.0 new (polled.Left step.answered) step.made))
    receive_left old new receiving.Unstarted after can same none = subst (λ party. HasMadeCalls start party [] []) (sym same.2) can
    receive_left old new (receiving.Completed None) after can same none =
        subst (λ party. HasMadeCalls start party [] []) (sym same.2) (received_calls can)
    receive_left old new (receiving.Completed (Some message)) after can same none = absurd none
    receive_left old new receiving.Finished after can same none = subst (λ party. HasMadeCalls start party [] []) (sym same.2) can

    -- no withdrawal brings one
    pub none_handed : (old new : P T A) (state : ReceiveState T) (message : T) (after : ReceiveState T) (capacity : Option ℕ)
        → CanReceiveArm start state old → WithdrawsReceiveOf has_added state old (Some message) after new → IsPart capacity new.actions → ⊥
    none_handed old new (receiving.Parked ticket) message after capacity can leaves part =
        let step = has_stepped leaves.3 in
        let answered = subst (λ next. after_withdraw step.reply next) (sym (got_some message leaves.0 leaves.1)) step.answered in
        let is = ap (λ party. party.actions) step.made
        ∙ (ap (λ actions. actions ++ (Withdraw ticket, step.reply) ∷ []) can.1.parked
        ∙ (append_assoc can.1.before ((Recv Arm, said.Parked ticket) ∷ can.1.later) ((Withdraw ticket, step.reply) ∷ [])
        ∙ ap (λ reply. can.1.before ++ ((Recv Arm, said.Parked ticket) ∷ (can.1.later ++ (Withdraw ticket, reply) ∷ [])))
        (left_reply step.reply message answered))) in
        never_handed capacity can.1.before can.1.later ticket message (subst (λ actions. IsPart capacity actions) is part)
    none_handed old new receiving.Unstarted message after capacity can same part = absurd (let none : ⊥ = cc same.0 in none)
    none_handed old new (receiving.Completed other) message after capacity can same part = absurd (let none : ⊥ = cc same.0 in none)
    none_handed old new receiving.Finished message after capacity can same part = absurd (let none : ⊥ = cc same.0 in none)

    -- what an arm that completed got
    pub received_result : (now : P T A) (state : ReceiveState T) (result : Result T RecvError) → Some result ≡ receive_result state
        → CanReceiveArm start state now → GivesReceive start now result
    received_result now (receiving.Completed (Some message)) result is can =
        let same : Ok message ≡ result = cc in subst (GivesReceive start now) same (got_answer can)
    received_result now (receiving.Completed None) result is can =
        let same : Err received.Disconnected ≡ result = cc in
        subst (GivesReceive start now) same (record { called = received_calls can; ended = can })
    received_result now receiving.Unstarted result is can = absurd (let none : ⊥ = cc in none)
    received_result now (receiving.Parked ticket) result is can = absurd (let none : ⊥ = cc in none)
    received_result now receiving.Finished result is can = absurd (let none : ⊥ = cc in none)
