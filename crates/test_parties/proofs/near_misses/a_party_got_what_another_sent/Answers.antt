use Rattle.test_parties.proofs.NearMissLemmas.{one_receives, got_of_another}
use Rattle.test_parties.proofs.near_misses.a_party_got_what_another_sent.Goals as goal

pub returns-clause-calls : goal.returns-clause-calls
returns-clause-calls c = one_receives

pub returns-clause-part : goal.returns-clause-part
returns-clause-part c = got_of_another
