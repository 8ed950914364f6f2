use Rattle.std.proofs.Common.{take, reverse, ℕ}
use Rattle.flume_model.specs.Log.{Log, opens}
use Rattle.flume_core.specs.Represents.{Represents}
use Rattle.flume_history.specs.Histories.{DescribesLog}
use Rattle.flume_history.specs.HistoryText.{IsTextOf}
use Rattle.flume_history.proofs.script.judge.Given as goal

-- the channel represents a run of the steps so far, with the replies that were said
abbrev pub invariant-loop-place : goal.invariant-loop-place
invariant-loop-place g l = record {
  followed : (log : Log ℕ g.row.A.Denot) × Represents (opens l.fn.capacity 1) log l.chan
      × DescribesLog IsTextOf (reverse (take l.place l.pairs)) log;
}
