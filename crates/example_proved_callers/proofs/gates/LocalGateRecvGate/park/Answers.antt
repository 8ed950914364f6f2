-- The step was made.
use Rattle.example_proved_callers.proofs.TurnLemmas.{made_by}
use Rattle.example_proved_callers.proofs.gates.LocalGateRecvGate.park.Goals as goal

pub returns-clause-does : goal.returns-clause-does
returns-clause-does g c = made_by c.make.ensures.call
