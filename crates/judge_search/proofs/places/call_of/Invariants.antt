use Rattle.std.proofs.Common.{◌≡◌, drop}
use Rattle.judge_search.specs.Configurations.{call_by}
use Rattle.judge_search.proofs.places.call_of.Given as goal

-- no call before this one is of the thread
abbrev pub invariant-loop-call : goal.invariant-loop-call
invariant-loop-call g l = record {
  own : call_by l.events l.thread l.calls ≡ call_by l.events l.thread (drop l.call-index l.calls);
}
