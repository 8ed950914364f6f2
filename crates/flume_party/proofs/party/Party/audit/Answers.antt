use Rattle.std.proofs.Common.{◌<◌, ap, sym, subst, ◌∙◌}
use Rattle.std.specs.List.{filter}
use Rattle.flume_party.specs.Owners.{actions_of}
use Rattle.flume_party.specs.Parties.{party_of}
use Rattle.flume_party.specs.Picks.{Matches}
use Rattle.flume_party.proofs.PartyLemmas.{looked, has_all, has_part}
use Rattle.flume_party.proofs.party.Party.audit.Goals as goal

pub invariant_of-self : goal.invariant_of-self
invariant_of-self g c =
    let e = c.append.ensures.appended in
    let own = g.O.Ownership.is_owned in
    let claim = c.self.inside.claim in
    let after = looked own _ _ _ _ claim.seen _ claim.positions _ e e.allowed c.self.invariant.did in record {
      some = subst (λ parts. 0 < parts) (sym c.audit.ensures.parts) c.self.invariant.some;
      did = subst (λ amount. Matches own amount c.append.new.claim.seen c.append.new.claim.positions)
          (sym c.audit.ensures.amount) after.keeps;
    }

pub returns-clause-party : goal.returns-clause-party
returns-clause-party g c =
    let e = c.append.ensures.appended in
    let claim = c.self.inside.claim in
    let after = looked g.O.Ownership.is_owned _ _ _ _ claim.seen _ claim.positions _ e e.allowed
    c.self.invariant.did in
    (λ i. party_of (c.audit.ensures.parts i) (actions_of (after.picks i))) ∙ c.self.view_is

pub returns-clause-part : goal.returns-clause-part
returns-clause-part g c =
    let e = c.append.ensures.appended in
    let claim = c.self.inside.claim in
    let after = looked g.O.Ownership.is_owned _ _ _ _ claim.seen _ claim.positions _ e e.allowed
    c.self.invariant.did in
    has_part _ _ _ _ _ (ap (λ p. p.actions) (sym c.self.view_is) ∙ ap actions_of (sym after.picks)) after.saw_all c.trace.view_is

pub returns-clause-all : goal.returns-clause-all
returns-clause-all g c = λ has_all_parts.
    let e = c.append.ensures.appended in
    let own = g.O.Ownership.is_owned in
    let claim = c.self.inside.claim in
    let whole = c.audit.ensures.whole (ap (λ p. p.parts) c.self.view_is ∙ has_all_parts) in
    let all = has_all own _ _ c.trace.inside.trace.writes claim.seen claim.positions
    c.self.invariant.did e.saw_prefix e.apart c.trace.invariant whole in
    ap (λ p. p.actions) (sym c.self.view_is) ∙ (all ∙ ap (filter own) c.trace.view_is)
