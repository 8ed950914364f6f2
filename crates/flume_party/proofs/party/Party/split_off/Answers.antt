use Rattle.std.proofs.Common.{◌<◌, sym, subst}
use Rattle.flume_party.specs.Parties.{party_of}
use Rattle.flume_party.specs.Picks.{Matches}
use Rattle.flume_party.proofs.PartyLemmas.{made_nothing, no_actions}
use Rattle.flume_party.proofs.party.Party.split_off.Goals as goal

pub invariant_of-result : goal.invariant_of-result
invariant_of-result g c =
    let claim = c.split_off-claim.result in
    let own = g.O.Ownership.is_owned in
    record {
      some = subst (λ parts. 0 < parts) (sym c.split_off-share.ensures.parts) c.requires.some;
      did = subst (λ amount. Matches own amount claim.seen claim.positions)
          (sym c.split_off-share.ensures.amount)
          (made_nothing own claim.seen claim.positions c.split_off-claim.ensures.new.1);
    }

pub returns-clause-new : goal.returns-clause-new
returns-clause-new g c =
    let claim = c.split_off-claim.result in
    let none = no_actions claim.seen claim.positions c.split_off-claim.ensures.new.1 in
    λ i. party_of (c.split_off-share.ensures.parts i) (none i)
