-- Whether one sends the message is so far decided by the places from here on.
use Rattle.std.proofs.Common.{◌≡◌, drop}
use Rattle.judge_search.specs.Overtaking.{some_sends}
use Rattle.judge_search.proofs.overtaking.some_sends.Given as goal

abbrev pub invariant-loop-place : goal.invariant-loop-place
invariant-loop-place g l = record {
  rest : some_sends l.events (g.T.PartialEq.eq l.message) l.fn.places
      ≡ some_sends l.events (g.T.PartialEq.eq l.message) (drop l.place-index l.fn.places);
}
