use Rattle.std.proofs.Common.{[], Some, refl, arith}
use Rattle.flume_party.specs.Interleavings.{End, Left, Right}
use Rattle.test_parties.specs.NearMisses.{waited_for, one_sent}
use Rattle.test_parties.proofs.NearMissLemmas.{waited_is_whole, two_calls}
use Rattle.test_parties.proofs.near_misses.the_bound_needs_the_number_of_parties.Goals as goal

pub returns-clause-one_left : goal.returns-clause-one_left
returns-clause-one_left c = waited_is_whole

pub returns-clause-needed : goal.returns-clause-needed
returns-clause-needed c = λ law. omega (
  arith,
  (law (Some 0) 1 _ waited_for _ _
      (one_sent, ([], refl, Left End), Left (Right (Left End))) two_calls waited_is_whole).within,
)
