use Rattle.std.proofs.Common.{sym}
use Rattle.flume_state.proofs.SendStepLemmas.{none_first}
use Rattle.flume_state.proofs.sends.Sends.next_due.Goals as goal

pub returns-in-None-clause-none_due : goal.returns-in-None-clause-none_due
returns-in-None-clause-none_due g c = rw (sym c.self.view_is) (none_first _ (rw c.in-None.is at c.self.invariant))
