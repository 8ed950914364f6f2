use Rattle.std.proofs.Common.{◌-◌, ◌≤◌, ◌<◌, take, length}
use Rattle.flume_model.specs.Log.{opens}
use Rattle.judge_calls.specs.Explanations.{IsExplained}
use Rattle.judge_search.proofs.explain.find_break.Given as goal

-- the first `low` events are explained, and the first `high` aren't
abbrev pub invariant-loop-low : goal.invariant-loop-low
invariant-loop-low g l = record {
  below : l.low < l.high;
  high_within : l.high ≤ length l.events;
  explained : IsExplained g.T.PartialEq.eq (opens l.capacity 1) (take l.low l.events);
  not_with_next : IsExplained g.T.PartialEq.eq (opens l.capacity 1) (take l.high l.events) → ⊥;
}

abbrev pub decreases-loop-low : goal.decreases-loop-low
decreases-loop-low g l = l.high - l.low
