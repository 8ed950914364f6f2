use Rattle.flume_audit.proofs.book.Book.history.Goals as goal

-- the history is a run, of which the law speaks
pub returns-clause-conserved : goal.returns-clause-conserved
returns-clause-conserved g c =
    rw (← c.self.view_is) (c.messages_are_conserved.ensures.law _ _ c.self.invariant.0.run)
