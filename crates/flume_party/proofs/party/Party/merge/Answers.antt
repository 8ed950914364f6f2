use Rattle.std.proofs.Common.{sym, subst, arith}
use Rattle.flume_party.specs.Picks.{Matches}
use Rattle.flume_party.proofs.PartyLemmas.{merges}
use Rattle.flume_party.proofs.party.Party.merge.Goals as goal

pub invariant_of-self : goal.invariant_of-self
invariant_of-self g c =
    let mine = c.self.inside.claim in
    let other = c.other.inside.claim in
    let own = g.O.Ownership.is_owned in
    let both = merges own _ _ mine.seen other.seen _ mine.positions other.positions _
    c.merge.ensures.joined c.self.invariant.did c.other.invariant.did in record {
      some = omega (arith, c.merge-2.ensures.parts, c.self.invariant.some);
      did = subst (λ amount. Matches own amount c.merge.new.self.seen c.merge.new.self.positions)
          (sym c.merge-2.ensures.amount) both.keeps;
    }

pub returns : goal.returns
returns g c =
    let mine = c.self.inside.claim in
    let other = c.other.inside.claim in
    let both = merges g.O.Ownership.is_owned _ _ mine.seen other.seen _ mine.positions
    other.positions _ c.merge.ensures.joined c.self.invariant.did c.other.invariant.did in
    rw (← c.self.view_is, ← c.other.view_is) (record {
      merged = record { parts = c.merge-2.ensures.parts; actions = both.picks };
    })
