use Rattle.std.proofs.Common.{◌≡◌, drop}
use Rattle.judge_calls.specs.Patterns.{all_returned}
use Rattle.judge_search.proofs.patterns.all_returned.Given as goal

-- whether all return is so far decided by the events from here on
abbrev pub invariant-loop-place : goal.invariant-loop-place
invariant-loop-place g l = record {
  rest : all_returned (g.T.PartialEq.eq l.message) l.events ≡ all_returned (g.T.PartialEq.eq l.message) (drop l.place l.events);
}
