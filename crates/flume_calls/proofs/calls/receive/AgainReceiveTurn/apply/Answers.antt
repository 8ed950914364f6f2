-- A parked receive gets what filled it, or the front if it may.
use Rattle.std.proofs.Common.{rules}
use Rattle.flume_calls.proofs.GotLemmas.{same_got}
use Rattle.flume_calls.proofs.calls.receive.AgainReceiveTurn.apply.Goals as goal

pub returns-in-Got-clause-does : goal.returns-in-Got-clause-does
returns-in-Got-clause-does g c = rw (← c.call.view_is) (
  search rules,
  record {
    waits = search rules;
    replaced = search rules;
    collected = λ message held. same_got _ _ _ c.in-Got.is (c.withdraw.ensures.collected message held);
    got = search rules;
    got_if_last = λ message rest withdrawing blocking e. same_got _ _ _ c.in-Got.is (c.withdraw.ensures.got message rest blocking e);
    ended = search rules;
    no_ticket = search rules;
    timeout = search rules;
    disconnected = search rules;
  },
)

pub returns-in-Got-poll-clause-does : goal.returns-in-Got-poll-clause-does
returns-in-Got-poll-clause-does g c = rw (← c.call-else-last.view_is) (
  search rules,
  record {
    waits = search rules;
    replaced = search rules;
    collected = λ message held. same_got _ _ _ c.in-Got-poll.is (c.poll.ensures.collected message held);
    got = λ message rest is_early looking e. same_got _ _ _ c.in-Got-poll.is (c.poll.ensures.got message rest looking e);
    got_if_last = search rules;
    ended = search rules;
    no_ticket = search rules;
    timeout = search rules;
    disconnected = search rules;
  },
)
