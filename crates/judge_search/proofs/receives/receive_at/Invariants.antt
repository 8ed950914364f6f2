-- Which receive is found is so far decided by the receives from here on.
use Rattle.std.proofs.Common.{◌≡◌, drop}
use Rattle.judge_search.specs.Receives.{receive_at}
use Rattle.judge_search.proofs.receives.receive_at.Given as goal

abbrev pub invariant-loop-receive : goal.invariant-loop-receive
invariant-loop-receive l = receive_at l.place l.fn.receives ≡ receive_at l.place (drop l.receive-index l.fn.receives)
