-- Whether one waits is so far decided by the receives from here on.
use Rattle.std.proofs.Common.{◌≡◌, drop}
use Rattle.judge_search.specs.ByPlaces.{some_waits}
use Rattle.judge_search.proofs.sends.some_wait.Given as goal

abbrev pub invariant-loop-receive : goal.invariant-loop-receive
invariant-loop-receive l = some_waits l.fn.receives ≡ some_waits (drop l.receive-index l.fn.receives)
