use Rattle.std.proofs.Common.{ℕ, ◌<◌, List, [], ◌∷◌, refl, sym, subst}
use Rattle.flume_party.specs.Owners.{AreCounted}
use Rattle.flume_party.specs.Parties.{party_of}
use Rattle.flume_party.specs.Picks.{Matches}
use Rattle.flume_party.proofs.PartyLemmas.{wrote, counted_owned, written_one, actions_written}
use Rattle.flume_party.proofs.party.Party.record.Goals as goal

pub append-requires : goal.append-requires
append-requires g c =
    let some = c.requires.some in
    let may = subst (λ before. g.M.Records.may c.args.evidence.now before some.0)
    (sym c.trace.view_is) some.1 in
    record { some = (some.0 ∷ [], (some.0, may, some.2, refl)) }

pub invariant_of-self : goal.invariant_of-self
invariant_of-self g c =
    let e = c.append.ensures.appended in
    let own = g.O.Ownership.is_owned in
    let claim = c.self.inside.claim in
    let after = wrote own _ _ _ _ claim.seen _ claim.positions _ e.allowed.0 e e.allowed.3
    c.self.invariant.did e.allowed.2 in record {
      some = subst (λ parts. 0 < parts) (sym c.add.ensures.parts) c.self.invariant.some;
      did = subst (λ amount. Matches own amount c.append.new.claim.seen c.append.new.claim.positions)
          (sym c.add.ensures.amount) after.keeps;
    }

pub invariant_of-trace : goal.invariant_of-trace
invariant_of-trace g c =
    let e = c.append.ensures.appended in
    let own = g.O.Ownership.is_owned in
    let written = written_one _ c.trace.inside.trace.writes _ _ _ _ _ e.allowed.0 e e.allowed.3 in
    subst (λ (z : List (List g.row.E.Denot) × ℕ). AreCounted own z.0 z.1)
    (λ i. (sym written i, sym c.add.ensures.total i))
    (counted_owned own c.trace.inside.trace.writes e.allowed.0 _ c.trace.invariant e.allowed.2)

pub returns : goal.returns
returns g c =
    let e = c.append.ensures.appended in
    let claim = c.self.inside.claim in
    let after = wrote g.O.Ownership.is_owned _ _ _ _ claim.seen _ claim.positions _ e.allowed.0 e
    e.allowed.3 c.self.invariant.did e.allowed.2 in
    rw (← c.trace.view_is, ← c.self.view_is) (record {
      recorded = record {
        actions = e.allowed.0;
        allowed = e.allowed.1;
        owned = e.allowed.2;
        recorded = actions_written _ c.trace.inside.trace.writes _ _ _ _ _ e.allowed.0 e e.allowed.3;
        made = λ i. party_of (c.add.ensures.parts i) (after.picks i);
      };
    })
