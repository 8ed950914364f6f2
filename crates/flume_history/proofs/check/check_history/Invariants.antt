use Rattle.std.proofs.Common.{take, reverse}
use Rattle.flume_model.specs.Log.{Log, opens}
use Rattle.flume_core.specs.Represents.{Represents}
use Rattle.flume_history.specs.Equal.{Equals}
use Rattle.flume_history.specs.Histories.{DescribesLog}
use Rattle.flume_history.proofs.check.check_history.Given as goal

-- the channel represents a run of the steps so far, whose replies equal those that were recorded
abbrev pub invariant-loop-place : goal.invariant-loop-place
invariant-loop-place g l = record {
  followed : (log : Log g.row.T.Denot g.row.A.Denot) × Represents (opens l.fn.capacity 1) log l.chan
      × DescribesLog (Equals g.T.PartialEq.eq) (reverse (take l.place l.history)) log;
}
