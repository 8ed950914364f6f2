-- No place is taken out yet, and what becomes of all is decided by those from here on.
use Rattle.std.proofs.Common.{◌≡◌, ◌++◌, take, drop}
use Rattle.judge_search.specs.ByPlaces.{without_send}
use Rattle.judge_search.proofs.sends.remove_place.Given as goal

abbrev pub invariant-loop-index : goal.invariant-loop-index
invariant-loop-index g l = record {
  same : l.places ≡ l.fn.places;
  rest : without_send l.place l.places.items ≡ take l.index l.places.items ++ without_send l.place (drop l.index l.places.items);
}
