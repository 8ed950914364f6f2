use Rattle.std.proofs.Common.{◌≡◌, ◌+◌, ◌≤◌, vec_len, vec_capacity}
use Rattle.std.specs.VecDeque.{deque_len}
use Rattle.flume_core.proofs.TransitionLemmas.{DoneUpTo}
use Rattle.flume_core.proofs.run.run.Given as goal

abbrev pub invariant-loop-step : goal.invariant-loop-step
invariant-loop-step g l = record {
  done : DoneUpTo l.fn.chan l.chan l.fn.steps.items l.rest.items l.replies.items;
  counted : vec_len l.replies + deque_len l.rest ≡ vec_len l.fn.steps;
  room : vec_len l.replies + deque_len l.rest ≤ vec_capacity l.replies;
}

abbrev pub decreases-loop-step : goal.decreases-loop-step
decreases-loop-step g l = deque_len l.rest
