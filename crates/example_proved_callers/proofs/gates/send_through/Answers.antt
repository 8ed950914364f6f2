-- What the turns of the gate tell of the send.
use Rattle.example_proved_callers.proofs.SendLemmas.{is_sent, is_taken_back}
use Rattle.example_proved_callers.proofs.gates.send_through.Goals as goal

pub returns-clause-is_sent : goal.returns-clause-is_sent
returns-clause-is_sent g c = is_sent g.row.A.Denot (λ gate. gate.locked) c.send_over.ensures.run

pub returns-clause-is_taken_back : goal.returns-clause-is_taken_back
returns-clause-is_taken_back g c =
    is_taken_back g.row.A.Denot (λ gate. gate.locked) c.facts.ensures.reachable c.send_over.ensures.run
