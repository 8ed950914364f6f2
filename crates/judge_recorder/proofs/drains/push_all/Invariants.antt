use Rattle.std.proofs.Common.{◌≡◌, ◌≤◌, length, vec_capacity}
use Rattle.judge_recorder.proofs.drains.push_all.Given as goal

-- the list has the messages so far, and room for all
abbrev pub invariant-loop-message : goal.invariant-loop-message
invariant-loop-message g l = record {
  same : l.list.items ≡ l.yielded;
  room : length l.fn.messages ≤ vec_capacity l.list;
}
