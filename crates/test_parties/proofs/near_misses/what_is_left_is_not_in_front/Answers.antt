use Rattle.std.proofs.Common.{[], ◌∷◌, refl, arith}
use Rattle.flume_party.specs.Interleavings.{End, Left}
use Rattle.flume_laws.proofs.TakeInLemmas.{left_in_order}
use Rattle.test_parties.proofs.near_misses.what_is_left_is_not_in_front.Goals as goal

pub returns-clause-last : goal.returns-clause-last
returns-clause-last c = record {
  line = 1 ∷ [];
  left = 2 ∷ [];
  sent = ([], refl, Left (Left End));
  got = ([], refl, Left End);
  count = refl;
  within = omega arith;
}

pub returns-clause-first : goal.returns-clause-first
returns-clause-first c = λ all. cc (left_in_order all)
