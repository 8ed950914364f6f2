use Rattle.std.proofs.Common.{refl}
use Rattle.flume_laws.proofs.TakeInLemmas.{same_in_order, one_in_order}
use Rattle.test_parties.proofs.NearMissLemmas.{begins_so, three_asked}
use Rattle.test_parties.proofs.near_misses.near_misses_are_not_exchanged.Goals as goal

pub returns-clause-exchanged : goal.returns-clause-exchanged
returns-clause-exchanged c = three_asked

pub returns-clause-swapped : goal.returns-clause-swapped
returns-clause-swapped c = λ all. cc (same_in_order all)

pub returns-clause-doubled : goal.returns-clause-doubled
returns-clause-doubled c = λ all. cc (same_in_order all)

pub returns-clause-lost : goal.returns-clause-lost
returns-clause-lost c = λ all. cc (same_in_order all)

pub returns-clause-order_turned : goal.returns-clause-order_turned
returns-clause-order_turned c = λ all.
    begins_so all.1.2 refl (one_in_order all.1.1) (one_in_order all.2)
