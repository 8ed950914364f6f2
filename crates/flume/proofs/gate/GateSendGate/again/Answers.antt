-- The step was made, by the gate's party.
use Rattle.std.proofs.Common.{refl}
use Rattle.flume.proofs.StepLemmas.{step_made}
use Rattle.flume.proofs.gate.GateSendGate.again.Goals as goal

pub returns-clause-does : goal.returns-clause-does
returns-clause-does g c =
    let turn = c.call_cold.ensures in
    (record { same = refl; answers = turn.answers; made = step_made turn.made }, refl, record { answers = turn.answers; turn = turn.did })
