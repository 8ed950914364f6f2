use Rattle.flume_laws.proofs.ConfirmLemmas.{confirmed}
use Rattle.example_transfers.proofs.window.receive_some.Goals as goal

pub returns-clause-offered : goal.returns-clause-offered
returns-clause-offered g c =
    rw c.confirm.ensures.party (confirmed c.loop.invariant.0 c.confirm.ensures.part)
