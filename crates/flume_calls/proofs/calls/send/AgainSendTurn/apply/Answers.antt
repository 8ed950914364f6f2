-- A message that comes back before the deadline comes back since the channel is closed; a ticket
-- that no send has isn't of a blocked one.
use Rattle.std.proofs.Common.{◌≡◌, ◌≢◌, ℕ, ◌≤◌, Bool, true, false, if◌then◌else◌, Option, Some, None, rules}
use Rattle.flume_model.specs.declared.step.Step.TheVariants.{PollSend, WithdrawSend}
use Rattle.flume_model.specs.declared.step.Reply.{Reply}
use Rattle.flume_state.specs.State.{State}
use Rattle.flume_state.specs.Due.{BecomesDue}
use Rattle.flume_state.specs.Effects.{Returns}
use Rattle.flume_core.specs.Represents.{Extends, IsReachable, IsRefusal}
use Rattle.flume_core.specs.PossibleReply.{PossibleReply}
use Rattle.flume_core.specs.Transitions.{IsTransition}
use Rattle.flume_calls.proofs.calls.send.AgainSendTurn.apply.Goals as goal

-- a ticket that isn't live isn't that of a blocked send
unblocked : (live accepted : Bool) (o : Option Bool) → live ≡ false → o ≡ (if live then Some accepted else None) → o ≢ Some false
unblocked false accepted o dead is blocked = cc
unblocked true accepted o dead is blocked = cc

module _ {T A S : Type 0} where
  -- what a step of a parked send says of itself is what a list of steps says of it: it needs no
  -- memory
  asked : {old new : State T S} {ticket : ℕ} {reply : Reply T A} → Extends old (PollSend ticket) reply new
      → (IsReachable A old → BecomesDue old (PollSend ticket) reply new) → PossibleReply (PollSend ticket) reply → old.space ≤ new.space
      → (IsRefusal reply → new ≡ old) → IsTransition old (PollSend ticket) reply new
  asked extends becomes_due possible_reply space unchanged = record {
    extends = extends;
    becomes_due = becomes_due;
    possible_reply = possible_reply;
    space = space;
    refused = λ back is. rw is at possible_reply;
    unchanged = unchanged;
  }

  withdrawn : {old new : State T S} {ticket : ℕ} {reply : Reply T A} → Extends old (WithdrawSend ticket) reply new
      → (IsReachable A old → BecomesDue old (WithdrawSend ticket) reply new) → PossibleReply (WithdrawSend ticket) reply
      → old.space ≤ new.space
      → (IsRefusal reply → new ≡ old) → IsTransition old (WithdrawSend ticket) reply new
  withdrawn extends becomes_due possible_reply space unchanged = record {
    extends = extends;
    becomes_due = becomes_due;
    possible_reply = possible_reply;
    space = space;
    refused = λ back is. rw is at possible_reply;
    unchanged = unchanged;
  }

pub returns-in-NoTicket-clause-does : goal.returns-in-NoTicket-clause-does
returns-in-NoTicket-clause-does g c = rw (← c.call.view_is) (
  (let said = c.in-NoTicket.ensures in
      let made = withdrawn said.step said.becomes_due said.possible_reply said.space said.unchanged in search rules),
  record {
    waits = search rules;
    replaced = search rules;
    accepted = search rules;
    no_ticket = search rules;
    taken_in = λ reachable _.
        let run = rw c.in-NoTicket.is at (c.withdraw_send.ensures.step reachable.0 reachable.1 reachable.2).run.0 in
        unblocked _ _ _ run (reachable.2.sends_are c.call.inside.ticket);
    timeout = search rules;
    disconnected = search rules;
  },
)

pub returns-in-NoTicket-poll_send-clause-does : goal.returns-in-NoTicket-poll_send-clause-does
returns-in-NoTicket-poll_send-clause-does g c = rw (← c.call-else-last.view_is) (
  (let said = c.in-NoTicket-poll_send.ensures in
      let made = asked said.step said.becomes_due said.possible_reply said.space said.unchanged in search rules),
  record {
    waits = search rules;
    replaced = search rules;
    accepted = search rules;
    no_ticket = search rules;
    taken_in = λ reachable _.
        let run = rw c.in-NoTicket-poll_send.is at (c.poll_send.ensures.step reachable.0 reachable.1 reachable.2).run.0 in
        unblocked _ _ _ run (reachable.2.sends_are c.call-else-last.inside.ticket);
    timeout = search rules;
    disconnected = search rules;
  },
)

pub returns-in-Returned-poll_send-clause-does : goal.returns-in-Returned-poll_send-clause-does
returns-in-Returned-poll_send-clause-does g c = (
  search rules,
  record {
    waits = search rules;
    replaced = search rules;
    accepted = search rules;
    no_ticket = search rules;
    taken_in = search rules;
    timeout = search rules;
    disconnected = λ back e.
        let found : Returns c.args.chan.now c.poll_send.new.self c.args.self.call back c.in-Returned-poll_send.closed = search rules in (
          c.in-Returned-poll_send.closed,
          found,
          λ reachable.
              (c.in-Returned-poll_send.ensures.step reachable.0 reachable.1 reachable.2).run.0.2,
        );
  },
)

pub returns-in-Returned-2-clause-does : goal.returns-in-Returned-2-clause-does
returns-in-Returned-2-clause-does g c = rw (← c.call.view_is) (
  (let said = c.in-Returned.ensures in
      let made = rw c.if-closed.false at (withdrawn said.step said.becomes_due said.possible_reply said.space said.unchanged) in
      search rules),
  search rules,
)
