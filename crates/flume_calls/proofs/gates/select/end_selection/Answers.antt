-- How a selection whose arms are all started ends after each round.
use Rattle.flume_calls.specs.SelectGates.{Expired, Won, Refused}
use Rattle.flume_calls.proofs.gates.select.end_selection.Goals as goal

pub returns-in-AllWait-clause-ends : goal.returns-in-AllWait-clause-ends
returns-in-AllWait-clause-ends g c = rw c.in-AllWait.is
    (Expired (rw c.count-all.ensures.count at c.withdraw.ensures.withdrawn.1))

pub returns-in-Completed-clause-ends : goal.returns-in-Completed-clause-ends
returns-in-Completed-clause-ends g c = rw c.in-Completed.is
    (Won (rw c.count-all.ensures.count at c.withdraw-in-Completed.ensures.withdrawn.1))

pub returns-in-NoMemory-clause-ends : goal.returns-in-NoMemory-clause-ends
returns-in-NoMemory-clause-ends g c = rw c.in-NoMemory.is
    (Refused (rw c.count-all.ensures.count at c.withdraw-in-NoMemory.ensures.withdrawn.1))
