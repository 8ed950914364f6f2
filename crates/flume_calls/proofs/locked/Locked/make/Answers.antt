-- What a call leaves, and what it is.
use Rattle.flume_calls.specs.Batches.{log_after}
use Rattle.flume_calls.proofs.LeadsToLemmas.{led_log}
use Rattle.flume_calls.proofs.EachIsRungLemmas.{each_rung}
use Rattle.flume_calls.proofs.locked.Locked.make.Goals as goal

pub invariant_of-self : goal.invariant_of-self
invariant_of-self g c =
    let reachable = c.self.invariant.reachable in
    let made = g.C.Turn.leads c.args.turn _ _ _ c.apply-answer.ensures.does in
    record {
      reachable = (
        reachable.0,
        log_after reachable.1 made.made,
        c.fire_due.ensures.represents reachable.0 _
            (led_log made.reachable reachable.0 reachable.1 reachable.2),
      );
      sends = c.fire_due.ensures.sends;
      receivers = c.fire_due.ensures.receivers;
    }

pub returns-clause-call : goal.returns-clause-call
returns-clause-call g c = rw (← c.self.view_is) (record {
  between = _;
  turn = c.apply-answer.ensures.does;
  rang = c.fire_due.ensures.rings;
  represents = c.fire_due.ensures.represents;
})

pub returns-clause-each_is_rung : goal.returns-clause-each_is_rung
returns-clause-each_is_rung g c =
    let made = g.C.Turn.leads c.args.turn _ _ _ c.apply-answer.ensures.does in
    rw (← c.self.view_is) (each_rung g.B.Bell.rings c.self.invariant.reachable made.reachable c.fire_due.ensures.rings)
