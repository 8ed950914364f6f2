use Rattle.std.proofs.Common.{[], ◌∷◌, None, refl}
use Rattle.flume_party.specs.Interleavings.{End, Left}
use Rattle.flume_laws.proofs.TakeInLemmas.{same_in_order}
use Rattle.test_parties.specs.NearMisses.{one_sent}
use Rattle.test_parties.proofs.NearMissLemmas.{one_is_whole, one_call}
use Rattle.test_parties.proofs.near_misses.the_law_needs_an_empty_channel.Goals as goal

pub returns-clause-one_sent : goal.returns-clause-one_sent
returns-clause-one_sent c = one_is_whole

pub returns-clause-needed : goal.returns-clause-needed
returns-clause-needed c = λ law. cc (same_in_order (law None (one_sent ∷ []) one_sent
    ((1 ∷ []) ∷ []) ([] ∷ []) ([], refl, Left End) one_call one_is_whole))
