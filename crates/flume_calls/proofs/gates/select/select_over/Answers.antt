-- Which way a selection takes after its first round, in which the arms are started.
use Rattle.flume_calls.specs.SelectGates.{NoWaiter, Won, Refused, Started}
use Rattle.flume_calls.proofs.gates.select.select_over.Goals as goal

pub returns-in_default-clause-run : goal.returns-in_default-clause-run
returns-in_default-clause-run g c = NoWaiter c.in_default.ensures.does

pub returns-in-AllWait-clause-run : goal.returns-in-AllWait-clause-run
returns-in-AllWait-clause-run g c =
    let made = c.in-Some.ensures in
    Started made.does
    (rw made.setup at c.in-AllWait.ensures.round)
    (rw (c.in-AllWait.ensures.setup, made.setup) at c.started_selection.ensures.run)

pub returns-in-Completed-clause-run : goal.returns-in-Completed-clause-run
returns-in-Completed-clause-run g c =
    let made = c.in-Some.ensures in
    Won made.does
    (rw made.setup at c.in-Completed.ensures.round)
    (rw (c.in-Completed.ensures.setup, made.setup) at c.withdraw.ensures.withdrawn.1)

pub returns-clause-run : goal.returns-clause-run
returns-clause-run g c =
    let made = c.in-Some.ensures in
    Refused made.does
    (rw made.setup at c.in-NoMemory.ensures.round)
    (rw (c.in-NoMemory.ensures.setup, made.setup)
    at c.withdraw-in-NoMemory.ensures.withdrawn.1)
