-- Whether one is the place is so far decided by the places from here on.
use Rattle.std.proofs.Common.{◌≡◌, ◌==◌, drop}
use Rattle.std.specs.List.{list_any}
use Rattle.judge_search.proofs.sends.has_place.Given as goal

abbrev pub invariant-loop-other : goal.invariant-loop-other
invariant-loop-other l = list_any (λ p. p == l.place) l.fn.places ≡ list_any (λ p. p == l.place) (drop l.other-index l.fn.places)
