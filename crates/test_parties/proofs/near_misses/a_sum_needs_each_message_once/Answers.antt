use Rattle.std.proofs.Common.{None, arith}
use Rattle.test_parties.specs.NearMisses.{two_exchanged}
use Rattle.test_parties.proofs.NearMissLemmas.{two_are_whole, three_merged, three_calls}
use Rattle.test_parties.proofs.near_misses.a_sum_needs_each_message_once.Goals as goal

pub returns-clause-emptied : goal.returns-clause-emptied
returns-clause-emptied c = two_are_whole

pub returns-clause-lost : goal.returns-clause-lost
returns-clause-lost c =
    λ law. omega (arith, law None _ two_exchanged _ _ three_merged three_calls two_are_whole)

pub returns-clause-doubled : goal.returns-clause-doubled
returns-clause-doubled c =
    λ law. omega (arith, law None _ two_exchanged _ _ three_merged three_calls two_are_whole)
