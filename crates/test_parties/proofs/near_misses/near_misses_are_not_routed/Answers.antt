use Rattle.std.proofs.Common.{[], ◌∷◌, refl}
use Rattle.flume_party.specs.Interleavings.{End, Left}
use Rattle.flume_laws.specs.Together.{NoList, AndLists}
use Rattle.test_parties.proofs.NearMissLemmas.{routed_alone}
use Rattle.test_parties.proofs.near_misses.near_misses_are_not_routed.Goals as goal

pub returns-clause-routed : goal.returns-clause-routed
returns-clause-routed c = (
  (1 ∷ 2 ∷ []) ∷ [],
  [] ∷ [],
  ([], refl, Left (Left End)),
  AndLists (Left (Left End)) NoList,
  (refl, tt),
)

pub returns-clause-swapped : goal.returns-clause-swapped
returns-clause-swapped c = λ all. cc (routed_alone all.3 refl all.2 all.4)

pub returns-clause-doubled : goal.returns-clause-doubled
returns-clause-doubled c = λ all. cc (routed_alone all.3 refl all.2 all.4)

pub returns-clause-lost : goal.returns-clause-lost
returns-clause-lost c = λ all. cc (routed_alone all.3 refl all.2 all.4)
