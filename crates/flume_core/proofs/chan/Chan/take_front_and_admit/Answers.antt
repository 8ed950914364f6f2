-- The front of the queue is taken, and then a blocked message may move in.
use Rattle.std.proofs.Common.{refl, ap, ◌∙◌}
use Rattle.flume_core.proofs.chan.Chan.take_front_and_admit.Goals as goal

pub returns-clause-some : goal.returns-clause-some
returns-clause-some g c =
    let taken = c.in_ok-message.ensures.taken in
    let queue = ap (λ l. l.queued) taken in
    let same = ap (λ l. l.blocked) taken in
    let space = ap (λ l. l.space) taken in
    let sends = ap (λ l. l.sends) taken in (
      c.take_queued.new.self.queued,
      rw (← c.bring_to_front.ensures.front, ← c.self.view_is) queue,
      c.refill.ensures.refilled ∙ rw (← c.bring_to_front.ensures.front, ← c.self.view_is, same, space, sends) refl,
    )
