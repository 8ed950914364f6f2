use Rattle.std.proofs.Common.{◌≡◌, ◌-◌, false, drop, length}
use Rattle.judge_calls.specs.Patterns.{begins_send}
use Rattle.judge_search.proofs.patterns.last_send.Given as goal

-- no event behind the next one begins a send of the message
abbrev pub invariant-loop-back : goal.invariant-loop-back
invariant-loop-back g l = record {
  none : begins_send (g.T.PartialEq.eq l.message) (drop (length l.events - l.back) l.events) ≡ false;
}
