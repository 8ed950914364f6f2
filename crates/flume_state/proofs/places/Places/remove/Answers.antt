use Rattle.std.proofs.Common.{◌≡◌, ap, ◌∙◌}
use Rattle.std.specs.FinMap.{remove}
use Rattle.flume_state.proofs.PlaceLemmas.{IsAway, away_none, away_some, away_remove, apart_remove, here_remove}
use Rattle.flume_state.proofs.places.Places.remove.Given.{Over}
use Rattle.flume_state.proofs.places.Places.remove.Goals as goal
use Rattle.flume_state.proofs.places.Places.remove.Goals.{in_default-via-in-Some+else-lone-ticket, in_default-via-in_default}

-- the last arm finds what was there, and the ticket isn't that of the lone one
last_arm : (g : Over) (c : goal.After-remove g) → (c.in_default.self-inside ≡ c.self.inside) × IsAway c.self.inside.lone c.args.ticket
last_arm g c = elim c.in_default.branch [
  | in_default-via-in-Some+else-lone-ticket w ↦ (w.self-inside-is, away_some _ _ _ w.in-Some.is w.if-lone-ticket.false)
  | in_default-via-in_default w ↦ (w.self-inside-is, away_none _ _ w.in_default.is)
]

pub invariant_of-self-in_default : goal.invariant_of-self-in_default
invariant_of-self-in_default g c =
    let both = last_arm g c in
    rw (c.remove.ensures.removed, both.0) (apart_remove _ _ _ both.1 c.self.invariant)

pub returns-in-Some : goal.returns-in-Some
returns-in-Some g c = record {
  removed = here_remove c.self.inside.lone c.in-Some.lone c.self.inside.table _ _ c.self.invariant c.in-Some.is c.if-lone-ticket.true
      c.self.view_is;
}

pub returns-in_default : goal.returns-in_default
returns-in_default g c =
    let both = last_arm g c in
    record {
      removed = rw (c.remove.ensures.removed, both.0) (away_remove _ _ _ both.1) ∙ ap (λ m. remove m c.args.ticket) c.self.view_is;
    }
