-- What is woken in the end is so far decided by the receives from here on.
use Rattle.std.proofs.Common.{◌≡◌, ◌++◌, take, drop, map}
use Rattle.judge_search.specs.ByPlaces.{woken_if_waiting}
use Rattle.judge_search.proofs.ends.wake_all.Given as goal

abbrev pub invariant-loop-receive : goal.invariant-loop-receive
invariant-loop-receive l = record {
  woken : map woken_if_waiting l.fn.receives
      ≡ take l.receive-index l.receive-items ++ map woken_if_waiting (drop l.receive-index l.receive-items);
}
