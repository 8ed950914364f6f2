-- No receive is taken out yet, and what becomes of all is decided by those from here on.
use Rattle.std.proofs.Common.{◌≡◌, ◌++◌, take, drop}
use Rattle.judge_search.specs.Receives.{without_place}
use Rattle.judge_search.proofs.receives.remove_receive.Given as goal

abbrev pub invariant-loop-index : goal.invariant-loop-index
invariant-loop-index g l = record {
  same : l.receives ≡ l.fn.receives;
  rest : without_place l.place l.receives.items ≡ take l.index l.receives.items ++ without_place l.place (drop l.index l.receives.items);
}
