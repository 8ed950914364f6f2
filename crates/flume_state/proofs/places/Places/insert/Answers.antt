use Rattle.std.proofs.Common.{◌≡◌, sym, ap, ◌∙◌, nat_cmp}
use Rattle.std.specs.FinMap.{get, insert, get-empty}
use Rattle.flume_state.proofs.PlaceLemmas.{IsAway, away_none, away_some, insert_apart, insert_ok, insert_absent, none_view}
use Rattle.flume_state.proofs.places.Places.insert.Given.{Over}
use Rattle.flume_state.proofs.places.Places.insert.Goals as goal
use Rattle.flume_state.proofs.places.Places.insert.Goals.{in_default-via-in-None+else-is_empty, in_default-via-in-Some+else-lone-ticket}

-- the last arm finds what was there, and the ticket isn't that of the lone one
last_arm : (g : Over) (c : goal.After-insert g) → (c.in_default.self-inside ≡ c.self.inside) × IsAway c.self.inside.lone c.args.ticket
last_arm g c = elim c.in_default.branch [
  | in_default-via-in-None+else-is_empty w ↦ (w.self-inside-is, away_none _ _ w.in-None.is)
  | in_default-via-in-Some+else-lone-ticket w ↦ (w.self-inside-is, away_some _ _ _ w.in-Some.is w.if-lone-ticket.false)
]

pub invariant_of-self-in_default : goal.invariant_of-self-in_default
invariant_of-self-in_default g c =
    let both = last_arm g c in
    let e = rw (both.0) at c.insert.ensures in
    rw (both.0) (insert_apart _ _ _ _ _ _ both.1 c.self.invariant e.inserted e.unchanged)

pub returns-in_default-clause-inserted : goal.returns-in_default-clause-inserted
returns-in_default-clause-inserted g c =
    let both = last_arm g c in
    let e = rw (both.0) at c.insert.ensures in
    rw (both.0) (insert_ok _ _ _ _ _ _ _ both.1 c.self.view_is e.inserted)

pub returns-in_default-clause-absent : goal.returns-in_default-clause-absent
returns-in_default-clause-absent g c =
    let both = last_arm g c in
    let e = rw (both.0) at c.insert.ensures in
    insert_absent _ _ _ _ _ both.1 c.self.view_is e.absent

pub invariant_of-self : goal.invariant_of-self
invariant_of-self g c =
    ap (λ m. get m c.args.ticket) (c.is_empty.ensures.empty.0 c.if-is_empty.true) ∙ get-empty nat_cmp c.args.ticket

pub returns-clause-inserted : goal.returns-clause-inserted
returns-clause-inserted g c = ap (λ m. insert m c.args.ticket c.args.place) (none_view _ _ _ c.in-None.is c.self.view_is)

pub returns-clause-absent : goal.returns-clause-absent
returns-clause-absent g c =
    ap (λ m. get m c.args.ticket) (sym (none_view _ _ _ c.in-None.is c.self.view_is) ∙ c.is_empty.ensures.empty.0 c.if-is_empty.true)
    ∙ get-empty nat_cmp c.args.ticket
