use Rattle.std.proofs.Common.{[], ◌∷◌, refl, sym, subst}
use Rattle.flume_party.specs.Owners.{AreCounted}
use Rattle.flume_party.proofs.PartyLemmas.{counted_unowned, written_one}
use Rattle.flume_party.proofs.shared_trace.SharedTrace.record_unowned.Goals as goal

pub append-requires : goal.append-requires
append-requires g c =
    let some = c.requires.some in
    let may = subst (λ before. g.M.Records.may c.args.evidence.now before some.0)
    (sym c.self.view_is) some.1 in
    record { some = (some.0 ∷ [], (some.0, may, some.2, refl)) }

pub invariant_of-self : goal.invariant_of-self
invariant_of-self g c =
    let e = c.append.ensures.appended in
    let own = g.O.Ownership.is_owned in
    let writes = c.self.inside.trace.writes in
    subst (λ list. AreCounted own list c.self.inside.book.total)
    (sym (written_one _ writes _ _ _ _ _ e.allowed.0 e e.allowed.3))
    (counted_unowned own writes e.allowed.0 _ c.self.invariant e.allowed.2)
