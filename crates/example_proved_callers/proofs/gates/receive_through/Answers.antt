-- What the turns of the gate tell of the receive.
use Rattle.example_proved_callers.proofs.ReceiveLemmas.{is_received, is_given_up}
use Rattle.example_proved_callers.proofs.gates.receive_through.Goals as goal

pub returns-clause-is_received : goal.returns-clause-is_received
returns-clause-is_received g c =
    is_received g.row.A.Denot (λ gate. gate.locked) c.recv_over.ensures.run

pub returns-clause-is_given_up : goal.returns-clause-is_given_up
returns-clause-is_given_up g c =
    is_given_up g.row.A.Denot (λ gate. gate.locked) c.recv_over.ensures.run
