use Rattle.std.proofs.Common.{◌∙◌, ap, sym, length}
use Rattle.flume_party.proofs.PartyLemmas.{filter_all}
use Rattle.test_parties.proofs.shared.Count.added_by_all.Goals as goal

pub returns : goal.returns
returns g c =
    let all = c.audit.ensures.all c.requires.whole ∙ filter_all c.self.inside.trace in
    record { all = c.self.invariant ∙ ap length (sym all) }
