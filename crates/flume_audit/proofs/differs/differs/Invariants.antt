use Rattle.std.proofs.Common.{Bool, ◌&&◌, ℕ, ◌<◌, map}
use Rattle.flume_model.specs.declared.step.Step.{Step}
use Rattle.flume_model.specs.declared.step.Reply.{Reply}
use Rattle.flume_model.specs.contracts.step.StepPartialEq.TheImpl as steps
use Rattle.flume_model.specs.contracts.step.ReplyPartialEq.TheImpl as replies
use Rattle.flume_audit.specs.Settled.{AgreeAt}
use Rattle.flume_audit.proofs.differs.differs.Given as goal

-- whether two entries are equal
abbrev pub same_entry : (g : goal.Over) → Step g.row.T.Denot × Reply g.row.T.Denot g.row.A.Denot
    → Step g.row.T.Denot × Reply g.row.T.Denot g.row.A.Denot → Bool
same_entry g one other =
    (steps.ghosts g.row.T g.T.PartialEq g.T.PartialEq-dict).eq one.0 other.0
    && (replies.ghosts g.row.T g.row.A g.A.Allocator g.A.Allocator-dict g.T.PartialEq
    g.T.PartialEq-dict g.A.Destruct-dict).eq one.1 other.1

-- history and receipts agree at each number so far
abbrev pub invariant-loop-number : goal.invariant-loop-number
invariant-loop-number g l = record {
  agree : (lower : ℕ) → lower < l.number → AgreeAt (same_entry g) l.history
      (map g.H.Receipts.receipts l.seats) lower;
}
