use Rattle.std.proofs.lemmas.List.Elements.{All-contains_itself}
use Rattle.test_parties.specs.NearMisses.{comes_back}
use Rattle.test_parties.proofs.NearMissLemmas.{blocked_is_whole, came_back}
use Rattle.test_parties.proofs.near_misses.no_other_message_comes_back.Goals as goal

pub returns-clause-blocked : goal.returns-clause-blocked
returns-clause-blocked c = blocked_is_whole

pub returns-clause-other : goal.returns-clause-other
returns-clause-other c = λ law. cc (law (comes_back 1) (comes_back 1) 1 _ blocked_is_whole
    (All-contains_itself (comes_back 1)) (came_back 1))

pub returns-clause-needed : goal.returns-clause-needed
returns-clause-needed c = λ law. cc (law (comes_back 2) (comes_back 2) 1 _ tt
    (All-contains_itself (comes_back 2)) (came_back 2))
