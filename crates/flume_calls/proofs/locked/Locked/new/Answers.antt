-- A channel that was just opened is at rest: an empty run led to it, and nobody is there to be due.
use Rattle.std.proofs.Common.{rules, ap}
use Rattle.std.specs.FinMap.{get-empty}
use Rattle.std.specs.Ordering.{nat_cmp}
use Rattle.flume_state.specs.Sends.{send_due_in}
use Rattle.flume_calls.proofs.locked.Locked.new.Goals as goal

pub invariant_of-result : goal.invariant_of-result
invariant_of-result g c = rw c.new.ensures.state record {
  reachable = search rules;
  sends = λ t. ap send_due_in (get-empty nat_cmp t);
  receivers = search rules;
}
