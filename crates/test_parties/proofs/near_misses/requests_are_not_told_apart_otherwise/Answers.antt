use Rattle.std.proofs.Common.{◌==◌, not, true, [], ◌∷◌, refl}
use Rattle.test_parties.proofs.NearMissLemmas.{three_asked}
use Rattle.test_parties.proofs.near_misses.requests_are_not_told_apart_otherwise.Goals as goal

pub returns-clause-swapped : goal.returns-clause-swapped
returns-clause-swapped c =
    λ law. cc (law (λ x. not (x == 3)) [] ((3 ∷ []) ∷ []) _ _ three_asked refl refl)

pub returns-clause-lost : goal.returns-clause-lost
returns-clause-lost c =
    λ law. cc (law (λ x. not (x == 3)) [] ((3 ∷ []) ∷ []) _ _ three_asked refl refl)

pub returns-clause-doubled : goal.returns-clause-doubled
returns-clause-doubled c =
    λ law. cc (law (λ x. not (x == 3)) [] ((3 ∷ []) ∷ []) _ _ three_asked refl refl)

pub returns-clause-needed : goal.returns-clause-needed
returns-clause-needed c =
    λ law. cc (law (λ x. true) [] ((3 ∷ []) ∷ []) _ _ three_asked refl tt)
