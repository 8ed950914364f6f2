-- How a selection that only tries ends, by its round, which had nothing to wait on.
use Rattle.flume_calls.specs.SelectGates.{NoneCompletes, Won, Refused}
use Rattle.flume_calls.proofs.gates.select.try_select_over.Goals as goal

pub returns-in-AllWait-clause-run : goal.returns-in-AllWait-clause-run
returns-in-AllWait-clause-run g c =
    NoneCompletes (rw c.as_ref.ensures.variant at c.in-AllWait.ensures.round)

pub returns-in-Completed-clause-run : goal.returns-in-Completed-clause-run
returns-in-Completed-clause-run g c =
    Won (rw c.as_ref.ensures.variant at c.in-Completed.ensures.round)

pub returns-clause-run : goal.returns-clause-run
returns-clause-run g c = Refused (rw c.as_ref.ensures.variant at c.in-NoMemory.ensures.round)
