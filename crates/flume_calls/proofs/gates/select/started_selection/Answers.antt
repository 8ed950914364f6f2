-- Which way each round takes a selection whose arms are all started.
use Rattle.flume_calls.specs.SelectGates.{Ended, AtDeadline, Again}
use Rattle.flume_calls.proofs.gates.select.started_selection.Goals as goal

pub returns-in_default : goal.returns-in_default
returns-in_default g c =
    let known = c.loop.invariant in record {
      run = known.from_here _ _ (Ended
          (rw known.setup at c.round-polled.ensures.round)
          c.in_default.not-AllWait
          (rw (c.round-polled.ensures.setup, known.setup) at c.end_selection.ensures.ends));
      completed = rw (c.round-polled.ensures.setup, known.setup) at c.end_selection.ensures.completed;
      in_time = λ never late. c.in_default.not-AllWait (c.end_selection.ensures.timeout late);
      setup = cc;
    }

pub returns-then-wait-clause-run : goal.returns-then-wait-clause-run
returns-then-wait-clause-run g c =
    let known = c.loop.invariant in
    let polled = c.in-AllWait.ensures in
    known.from_here _ _ (AtDeadline
    (rw known.setup at polled.round)
    c.if-wait.ensures.does
    (rw (c.if-wait.ensures.setup, polled.setup, known.setup) at c.round-last.ensures.round)
    (rw (c.round-last.ensures.setup, c.if-wait.ensures.setup, polled.setup, known.setup)
    at c.end_selection-then-wait.ensures.ends))

pub returns-then-wait-clause-in_time : goal.returns-then-wait-clause-in_time
returns-then-wait-clause-in_time g c =
    let polled = c.in-AllWait.ensures in λ never late. never _ _
    (rw c.loop.invariant.setup at polled.setup)
    c.if-wait.ensures.does

pub loop-preserved : goal.loop-preserved
loop-preserved g c =
    let known = c.loop.invariant in
    let polled = c.in-AllWait.ensures in record {
      from_here = λ new result rest. known.from_here _ _ (Again
          (rw known.setup at polled.round) c.if-wait.ensures.does rest);
      setup = cc;
      on = (tt, tt);
    }
