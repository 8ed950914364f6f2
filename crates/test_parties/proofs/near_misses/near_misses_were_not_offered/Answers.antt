use Rattle.std.proofs.Common.{[], ◌∷◌}
use Rattle.flume_party.specs.Interleavings.{End, Left, Right}
use Rattle.test_parties.proofs.NearMissLemmas.{sublist_is_found}
use Rattle.test_parties.proofs.near_misses.near_misses_were_not_offered.Goals as goal

pub returns-clause-all : goal.returns-clause-all
returns-clause-all c = ([], Left (Left End))

pub returns-clause-some : goal.returns-clause-some
returns-clause-some c = (1 ∷ [], Right (Left End))

pub returns-clause-doubled : goal.returns-clause-doubled
returns-clause-doubled c = λ some. cc (sublist_is_found some.1)

pub returns-clause-refused : goal.returns-clause-refused
returns-clause-refused c = λ some. cc (sublist_is_found some.1)

pub returns-clause-swapped : goal.returns-clause-swapped
returns-clause-swapped c = λ some. cc (sublist_is_found some.1)
