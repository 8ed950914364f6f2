-- What the round leaves, and whether it fills one, is so far decided by the receives from here on.
use Rattle.std.proofs.Common.{◌≡◌, ◌++◌, take, drop}
use Rattle.judge_search.specs.Receives.{round_of, round_fills_one}
use Rattle.judge_search.proofs.wakes.wake_round.Given as goal

abbrev pub invariant-loop-place : goal.invariant-loop-place
invariant-loop-place l = record {
  round : round_of l.front l.fn.receives ≡ take l.place l.receives ++ round_of l.front (drop l.place l.receives);
  fills : round_fills_one l.fn.receives ≡ round_fills_one (drop l.place l.receives);
}
