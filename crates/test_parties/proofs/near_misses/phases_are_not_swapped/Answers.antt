use Rattle.std.proofs.Common.{[], ◌∷◌, ◌++◌, None, refl}
use Rattle.flume_party.specs.Interleavings.{End, Left, Right}
use Rattle.flume_laws.specs.Together.{AndParty, NoParty}
use Rattle.test_parties.specs.NearMisses.{sends, both_got, two_exchanged}
use Rattle.test_parties.proofs.NearMissLemmas.{two_are_whole, one_sends, both_receives}
use Rattle.test_parties.proofs.NearMissLemmas.{second_first}
use Rattle.test_parties.proofs.near_misses.phases_are_not_swapped.Goals as goal

pub returns : goal.returns
returns c = record {
  swapped = λ law. second_first (law None (sends 1 ∷ []) (sends 2 ∷ []) (both_got ∷ []) (sends 1)
      (sends 2) both_got two_exchanged _ _ _ _ _ _ ([], refl, Left End)
      (AndParty (one_sends 1) NoParty) ([], refl, Left End) (AndParty (one_sends 2) NoParty)
      ([], refl, Left (Left End)) (AndParty both_receives NoParty)
      (Left (Left (Right (Right End)))) two_are_whole);
}
