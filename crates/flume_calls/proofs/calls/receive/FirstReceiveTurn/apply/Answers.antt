-- A receive that doesn't wait gets the front.
use Rattle.std.proofs.Common.{rules}
use Rattle.flume_calls.proofs.GotLemmas.{same_got}
use Rattle.flume_calls.proofs.calls.receive.FirstReceiveTurn.apply.Goals as goal

pub returns-in-Got-clause-does : goal.returns-in-Got-clause-does
returns-in-Got-clause-does g c = (
  search rules,
  record {
    got = λ message rest e. same_got _ _ _ c.in-Got.is (c.try_recv.ensures.got message rest e);
    disconnected = search rules;
    need_signal = search rules;
    unchanged = search rules;
  },
)
