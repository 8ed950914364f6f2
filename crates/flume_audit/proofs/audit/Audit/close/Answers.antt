use Rattle.flume_audit.proofs.audit.Audit.close.Goals as goal

-- the book is as it was when it was closed
pub returns-clause-differs : goal.returns-clause-differs
returns-clause-differs g c =
    rw c.close-closed.ensures.unchanged c.close-closed.ensures.differs

pub returns-clause-settled : goal.returns-clause-settled
returns-clause-settled g c =
    rw c.close-closed.ensures.unchanged c.close-closed.ensures.settled

pub returns-clause-weights : goal.returns-clause-weights
returns-clause-weights g c =
    rw c.close-closed.ensures.unchanged c.close-closed.ensures.weights
