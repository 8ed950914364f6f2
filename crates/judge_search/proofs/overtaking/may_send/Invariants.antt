-- Whether one may send the message is so far decided by the calls from here on.
use Rattle.std.proofs.Common.{◌≡◌, drop}
use Rattle.judge_search.specs.Overtaking.{may_send}
use Rattle.judge_search.proofs.overtaking.may_send.Given as goal

abbrev pub invariant-loop-call : goal.invariant-loop-call
invariant-loop-call g l = record {
  rest : may_send l.events (g.T.PartialEq.eq l.message) l.fn.calls
      ≡ may_send l.events (g.T.PartialEq.eq l.message) (drop l.call-index l.fn.calls);
}
