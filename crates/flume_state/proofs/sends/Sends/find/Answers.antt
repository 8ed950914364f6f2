use Rattle.std.proofs.Common.{sym}
use Rattle.flume_state.proofs.LinkLemmas.{named}
use Rattle.flume_state.proofs.sends.Sends.find.Goals as goal

pub returns : goal.returns
returns g c =
    let s = named _ c.args.ticket _ c.facts.ensures.apart c.facts.ensures.single c.find.ensures.place in
    rw (sym c.self.view_is) (record { found = s.0; accepted = s.1; absent = s.2 })
