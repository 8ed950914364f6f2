-- What another does is one call.
use Rattle.example_proved_callers.proofs.TurnLemmas.{by_call}
use Rattle.example_proved_callers.proofs.gates.LocalGate.let_other.Goals as goal

pub returns-in-Some-DropSender : goal.returns-in-Some-DropSender
returns-in-Some-DropSender g c = record { does = by_call c.make.ensures.call }

pub returns-in-Done-Ok : goal.returns-in-Done-Ok
returns-in-Done-Ok g c = record { does = by_call c.make-in-Some-TryRecv.ensures.call }

pub returns-in-Some-TryRecv : goal.returns-in-Some-TryRecv
returns-in-Some-TryRecv g c = record { does = by_call c.make-in-Some-TryRecv.ensures.call }

pub returns-in-Some-TryRecv-2 : goal.returns-in-Some-TryRecv-2
returns-in-Some-TryRecv-2 g c = record { does = by_call c.make-in-Some-TryRecv.ensures.call }
