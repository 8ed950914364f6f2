use Rattle.std.proofs.Common.{sym, ap, ◌∙◌}
use Rattle.std.specs.FinMap.{get}
use Rattle.flume_state.proofs.PlaceLemmas.{IsAway, away_none, away_some, away_get, here_get}
use Rattle.flume_state.proofs.places.Places.get.Goals as goal
use Rattle.flume_state.proofs.places.Places.get.Goals.{in_default-via-in-Some+else-lone-ticket, in_default-via-in_default}

pub returns-in-Some : goal.returns-in-Some
returns-in-Some g c = record {
  place = sym (here_get _ c.in-Some.lone _ _ c.args.ticket c.in-Some.is c.if-lone-ticket.true c.self.view_is);
}

pub returns-in_default : goal.returns-in_default
returns-in_default g c =
    let away : IsAway c.self.inside.lone c.args.ticket = elim c.in_default.branch [
      | in_default-via-in-Some+else-lone-ticket w ↦ away_some _ _ _ w.in-Some.is w.if-lone-ticket.false
      | in_default-via-in_default w ↦ away_none _ _ w.in_default.is
    ] in
    record {
      place = c.get.ensures.place ∙ sym (away_get _ _ _ away) ∙ ap (λ m. get m c.args.ticket) c.self.view_is;
    }
