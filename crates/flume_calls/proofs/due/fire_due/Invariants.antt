use Rattle.std.proofs.Common.{◌+◌}
use Rattle.std.specs.FinMap.{keys}
use Rattle.flume_core.specs.Represents.{SameLogs}
use Rattle.flume_calls.specs.Rings.{Rings}
use Rattle.flume_calls.proofs.DueCountLemmas.{DueIn, due_sends, due_entries}
use Rattle.flume_calls.proofs.due.fire_due.Given as goal

-- every round of rings from here is the end of a round of the call
abbrev pub invariant-loop-ticket : goal.invariant-loop-ticket
invariant-loop-ticket g l = record {
  from_here : (new : _) (end : _) → Rings g.B.Bell.rings l.chan l.bell new end → Rings g.B.Bell.rings l.fn.chan l.fn.bell new end;
  represents : SameLogs g.row.A.Denot l.fn.chan l.chan;
  before : DueIn l.chan.sends l.fn.chan.sends;
}

abbrev pub decreases-loop-ticket : goal.decreases-loop-ticket
decreases-loop-ticket g l = due_sends l.chan.sends (keys l.fn.chan.sends) + due_entries l.chan.entries
