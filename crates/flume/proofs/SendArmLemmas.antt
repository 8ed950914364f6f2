-- What the party of a send arm did, from turn to turn.
use Rattle.std.proofs.Common.{◌≡◌, ℕ, Bool, true, false, [], ◌∷◌, Some, Result, Ok, Err}
use Rattle.std.proofs.Common.{refl, sym, ◌∙◌, subst, inl, inr}
use Rattle.flume_model.specs.declared.step.Step.TheVariants.{TrySend, Send, PollSend}
use Rattle.flume_model.specs.declared.step.Reply.{Reply}
use Rattle.flume_core.specs.declared.error.SendError.{SendError}
use Rattle.flume_core.specs.declared.error.SendError.TheVariants as error
use Rattle.flume_core.specs.declared.error.SendTimeoutError.{SendTimeoutError}
use Rattle.flume_core.specs.declared.error.SendTimeoutError.TheVariants as timed
use Rattle.flume_calls.specs.declared.calls.send.SendNext.{SendNext}
use Rattle.flume_calls.specs.declared.calls.send.SendNext.TheVariants.{Done, NeedSignal, Park}
use Rattle.flume_calls.specs.declared.gates.select.ArmNext.{ArmNext}
use Rattle.flume_calls.specs.declared.gates.select.ArmNext.TheVariants as next
use Rattle.flume_calls.specs.declared.polled.send.PolledSend.TheVariants.{Unsent, Parked}
use Rattle.flume_calls.specs.SendTurns.{after_try_send, after_send, after_poll_send, IsFirstAnswer, IsParkingAnswer, IsPollAnswer}
use Rattle.flume_party.specs.Parties.{PartyState, and_made}
use Rattle.flume_actions.specs.Actions.{Action}
use Rattle.flume_actions.specs.SendCalls as polled
use Rattle.flume_actions.specs.Calls.{TriesToSend}
use Rattle.flume_actions.specs.Callers.{HasMadeCalls}
use Rattle.flume_actions.proofs.CallerLemmas.{and_call}
use Rattle.flume.specs.ArmStates.{IsAfterSend, send_result}
use Rattle.flume.specs.ArmParties.{SendTurnOf, WithdrawsSendOf}
use Rattle.flume.specs.EndedCalls.{SentByTry, SentByPolls, HasEndedSend, GivesSend}
use Rattle.flume.specs.TracedPolls.{CanSend}
use Rattle.flume.specs.TracedArms.{CanSendArm, MaySend}
use Rattle.flume.specs.declared.select.send.SendState.{SendState}
use Rattle.flume.specs.declared.select.send.SendState.TheVariants as sending
use Rattle.flume.specs.TracedSends.{has_added}
use Rattle.flume.proofs.TracedLemmas.{has_stepped, then_made}
use Rattle.flume.proofs.TracedSendPollLemmas.{sent_calls, send_ended}

-- a party, by its actions
abbrev P : Type 0 → Type 0 → Type 0
P T A = PartyState (Action T A)

module _ {T : Type 0} where
  -- the state that a turn leads to
  abbrev pub leads : SendNext T → SendState T
  leads (Park ticket) = sending.Parked ticket
  leads (NeedSignal back) = sending.Unstarted back
  leads (Done (Ok sent)) = sending.Completed (Ok tt)
  leads (Done (Err (timed.Disconnected back))) = sending.Completed (Err back)
  leads (Done (Err other)) = sending.Finished

  led : (turn : SendNext T) (answer : ArmNext) (state : SendState T) → IsAfterSend turn answer state → state ≡ leads turn
  led (Park ticket) next.Waits state is = is
  led (NeedSignal back) next.Waits state is = is
  led (Done (Ok sent)) next.Completed state is = is
  led (Done (Err (timed.Disconnected back))) next.Completed state is = is
  led (Done (Err (timed.NoMemory back))) next.NoMemory state is = is
  led _ _ state is = absurd is

module _ {T A : Type 0} where
  module _ (start : P T A) (message : T) where
    -- a result
    ended : {new : P T A} (result : Result (Unit {0}) (SendTimeoutError T)) → HasEndedSend start message new result
        → CanSendArm start message (leads (Done result)) new
    ended (Ok sent) did = did
    ended (Err (timed.Disconnected back)) did = did
    ended (Err (timed.NoMemory back)) did = (Err (timed.NoMemory back), sent_calls did)
    ended (Err (timed.Timeout back)) did = (Err (timed.Timeout back), sent_calls did)

    -- a turn that may not park
    tried : {old new : P T A} {offered : T} (reply : Reply T A) (turn : SendNext T) → CanSend start message (Unsent offered) old
        → after_try_send reply turn → IsFirstAnswer offered turn
        → new ≡ and_made old ((TrySend offered, reply) ∷ []) → CanSendArm start message (leads turn) new
    tried reply (Done result) can answered first made =
        ended result (send_ended can (SentByTry answered) made)
    tried reply (NeedSignal back) can answered first made = (
      first ∙ can.0,
      and_call can.1 (record { actions = _; call = TriesToSend (NeedSignal back) answered; made = made }) refl refl,
    )
    tried reply (Park ticket) can answered first made = absurd first

    -- the first step of an arm that may park
    started : {old new : P T A} {offered : T} (reply : Reply T A) (turn : SendNext T) → CanSend start message (Unsent offered) old
        → after_send reply turn → IsParkingAnswer offered turn → new ≡ and_made old ((Send offered, reply) ∷ [])
        → CanSendArm start message (leads turn) new
    started reply (Done result) can answered parking made =
        ended result (send_ended can (SentByPolls (polled.AtOnce answered)) made)
    started {old = old} {offered = offered} reply (Park ticket) can answered parking made =
        λ later result end polls to. send_ended can (SentByPolls (polled.Polled answered polls))
        (then_made old ((Send offered, reply) ∷ []) later to made)
    started reply (NeedSignal back) can answered parking made = absurd parking

    -- a poll of a parked arm
    asked : (old new : P T A) (ticket : ℕ) (reply : Reply T A) (turn : SendNext T) → CanSend start message (Parked ticket) old
        → after_poll_send ticket reply turn → IsPollAnswer ticket turn → new ≡ and_made old ((PollSend ticket, reply) ∷ [])
        → CanSendArm start message (leads turn) new
    asked old new ticket reply (Done result) can answered again made =
        ended result (can _ result new (polled.Answered answered) made)
    asked old new ticket reply (Park same) can answered again made =
        let waiting = subst (λ t. after_poll_send ticket reply (Park t)) again answered in
        subst (λ t. CanSendArm start message (sending.Parked t) new) (sym again)
        (λ later result end polls to. can ((PollSend ticket, reply) ∷ later) result end (polled.Pending waiting polls)
        (then_made old ((PollSend ticket, reply) ∷ []) later to made))
    asked old new ticket reply (NeedSignal back) can answered again made = absurd again

    -- the same state and the same party
    same_arm : {old new : P T A} {state after : SendState T} → after ≡ state → new ≡ old → CanSendArm start message state old
        → CanSendArm start message after new
    same_arm {old = old} {after = after} state party can =
        subst (λ party. CanSendArm start message after party) (sym party)
        (subst (λ state. CanSendArm start message state old) (sym state) can)

    -- an arm that has memory for nothing
    gave_up : {old new : P T A} {offered : T} {after : SendState T} → CanSend start message (Unsent offered) old
        → after ≡ sending.Finished → new ≡ old → CanSendArm start message after new
    gave_up {offered = offered} can state party = same_arm state party (Err (timed.NoMemory offered), can.1)

    -- a turn of a send arm
    pub send_turned : (old new : P T A) (parks : Bool) (state : SendState T) (answer : ArmNext) (after : SendState T)
        → CanSendArm start message state old → SendTurnOf has_added parks state old answer after new → CanSendArm start message after new
    send_turned old new true (sending.Unstarted offered) answer after can (inl makes) =
        let step = has_stepped makes.1 in
        subst (λ state. CanSendArm start message state new) (sym (led makes.0 answer after makes.3))
        (started step.reply makes.0 can step.answered makes.2 step.made)
    send_turned old new true (sending.Unstarted offered) answer after can (inr none) = gave_up can none.0 none.1
    send_turned old new false (sending.Unstarted offered) answer after can makes =
        let step = has_stepped makes.1 in
        subst (λ state. CanSendArm start message state new) (sym (led makes.0 answer after makes.3))
        (tried step.reply makes.0 can step.answered makes.2 step.made)
    send_turned old new parks (sending.Parked ticket) answer after can makes =
        let step = has_stepped makes.1 in
        subst (λ state. CanSendArm start message state new) (sym (led makes.0 answer after makes.3))
        (asked _ _ ticket step.reply makes.0 can step.answered makes.2 step.made)
    send_turned old new parks (sending.Completed result) answer after can same = same_arm same.0 same.1 can
    send_turned old new parks sending.Finished answer after can same = same_arm same.0 same.1 can

    -- a withdrawal
    pub send_withdrew : (old new : P T A) (state : SendState T) (after : SendState T) → CanSendArm start message state old
        → WithdrawsSendOf has_added state old after new → CanSendArm start message after new
    send_withdrew old new (sending.Parked ticket) after can leaves =
        let step = has_stepped leaves.2 in
        subst (λ state. CanSendArm start message state new) (sym leaves.1)
        (leaves.0, sent_calls (can _ leaves.0 new (polled.Left step.answered) step.made))
    send_withdrew old new (sending.Unstarted offered) after can same = same_arm same.0 same.1 can
    send_withdrew old new (sending.Completed result) after can same = same_arm same.0 same.1 can
    send_withdrew old new sending.Finished after can same = same_arm same.0 same.1 can

    -- it sent the message or nothing
    pub send_left : (old new : P T A) (state : SendState T) (after : SendState T) → CanSendArm start message state old
        → WithdrawsSendOf has_added state old after new → MaySend start message new
    send_left old new (sending.Parked ticket) after can leaves =
        let step = has_stepped leaves.2 in (leaves.0, sent_calls (can _ leaves.0 new (polled.Left step.answered) step.made))
    send_left old new (sending.Unstarted offered) after can same =
        (Err (timed.NoMemory offered), subst (λ party. HasMadeCalls start party [] []) (sym same.1) can.1)
    send_left old new (sending.Completed (Ok sent)) after can same =
        (Ok tt, subst (λ party. HasMadeCalls start party (message ∷ []) []) (sym same.1) (sent_calls can))
    send_left old new (sending.Completed (Err back)) after can same =
        (Err (timed.Disconnected back), subst (λ party. HasMadeCalls start party [] []) (sym same.1) (sent_calls can))
    send_left old new sending.Finished after can same = subst (λ party. MaySend start message party) (sym same.1) can

    -- what an arm that completed sent
    pub sent_result : (now : P T A) (state : SendState T) (result : Result (Unit {0}) (SendError T)) → Some result ≡ send_result state
        → CanSendArm start message state now → GivesSend start message now result
    sent_result now (sending.Completed (Ok sent)) result is can =
        let same : Ok tt ≡ result = cc in
        subst (GivesSend start message now) same (record { called = sent_calls can; ended = can })
    sent_result now (sending.Completed (Err back)) result is can =
        let same : Err (error.Disconnected back) ≡ result = cc in
        subst (GivesSend start message now) same (record { called = sent_calls can; ended = can })
    sent_result now (sending.Unstarted offered) result is can = absurd (let none : ⊥ = cc in none)
    sent_result now (sending.Parked ticket) result is can = absurd (let none : ⊥ = cc in none)
    sent_result now sending.Finished result is can = absurd (let none : ⊥ = cc in none)
