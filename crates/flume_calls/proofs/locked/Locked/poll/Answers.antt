-- What a poll leaves, and what it is.
use Rattle.std.proofs.Common.{◌∷◌}
use Rattle.flume_calls.specs.Polls.{NoStep, OneStep}
use Rattle.flume_calls.proofs.EachIsRungLemmas.{polled_steps, each_rung}
use Rattle.flume_calls.proofs.locked.Locked.poll.Goals as goal

pub invariant_of-self : goal.invariant_of-self
invariant_of-self g c =
    let reachable = c.self.invariant.reachable in
    record {
      reachable = elim c.poll-answer.ensures.step [
        | NoStep same ↦ (reachable.0, reachable.1, c.fire_due.ensures.represents reachable.0 _ (rw same reachable.2))
        | OneStep step reply stepped ↦ (
          reachable.0,
          (step, reply) ∷ reachable.1,
          c.fire_due.ensures.represents reachable.0 _ (stepped.extends reachable.0 reachable.1 reachable.2),
        )
      ];
      sends = c.fire_due.ensures.sends;
      receivers = c.fire_due.ensures.receivers;
    }

pub returns-clause-call : goal.returns-clause-call
returns-clause-call g c = rw (← c.self.view_is) (record {
  between = _;
  polled = c.poll-answer.ensures.row;
  step = c.poll-answer.ensures.step;
  rang = c.fire_due.ensures.rings;
  represents = c.fire_due.ensures.represents;
})

pub returns-clause-each_is_rung : goal.returns-clause-each_is_rung
returns-clause-each_is_rung g c =
    let made = polled_steps c.poll-answer.ensures.step in
    rw (← c.self.view_is) (each_rung g.B.Bell.rings c.self.invariant.reachable made.1 c.fire_due.ensures.rings)
