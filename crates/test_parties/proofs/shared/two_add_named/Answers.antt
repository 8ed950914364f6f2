use Rattle.std.proofs.Common.{◌≡◌, ap, subst, length, arith, [], ◌∷◌, IfSome}
use Rattle.flume_party.specs.Parties.{party_of}
use Rattle.flume_party.proofs.InterleavingLemmas.{interleaved_length}
use Rattle.test_parties.proofs.shared.two_add_named.Goals as goal

pub returns : goal.returns
returns g c =
    let sum = interleaved_length _ _ _ c.merge.ensures.merged.actions in
    let left = subst (λ o. IfSome o (λ party. party ≡ party_of 1 (c.args.first ∷ []))) c.in-Some.is
    c.join-left.ensures.first in
    let right = subst (λ o. IfSome o (λ party. party ≡ party_of 1 (c.args.second ∷ [])))
    c.in-Some-right.is c.join-left.ensures.second in
    let one = ap (λ party. length party.actions) left in
    let other = ap (λ party. length party.actions) right in
    record { two = omega (arith, c.added_by_all.ensures.all, sum, one, other) }
