-- The front of the queue is taken if no message is blocked.
use Rattle.std.proofs.Common.{sym, ◌∙◌}
use Rattle.flume_core.proofs.UnblockedLemmas.{takes_alone}
use Rattle.flume_core.proofs.chan.Chan.take_front.Goals as goal

pub returns-then-blocked_len-eq0-clause-some : goal.returns-then-blocked_len-eq0-clause-some
returns-then-blocked_len-eq0-clause-some g c =
    rw (sym c.self.view_is)
    (takes_alone _ _ _ (sym c.blocked_len.ensures.len ∙ c.if-blocked_len-eq0.true) c.take_queued.ensures.taken)
