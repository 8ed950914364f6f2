-- A new channel represents the empty log.
use Rattle.std.proofs.Common.{rules}
use Rattle.flume_core.proofs.StartLemmas.{represents_at_start}
use Rattle.flume_core.proofs.chan.Chan.starting_at.Goals as goal

pub returns-clause-represents : goal.returns-clause-represents
returns-clause-represents g c = represents_at_start _ _ (search rules)
