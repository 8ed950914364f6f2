use Rattle.std.proofs.Common.{sym}
use Rattle.flume_state.proofs.PlaceLemmas.{here_get}
use Rattle.flume_state.proofs.places.Places.lone.Goals as goal

pub returns-in-Some : goal.returns-in-Some
returns-in-Some g c = record {
  place = sym (here_get _ c.in-Some.lone _ _ c.args.ticket c.in-Some.is c.if-lone-ticket.true c.self.view_is);
}
