-- The step was made, by the arm's party, or there was no memory for a start.
use Rattle.std.proofs.Common.{inl}
use Rattle.flume.proofs.StepLemmas.{step_made}
use Rattle.flume.proofs.select.receive.ReceiveArm.start.Goals as goal

pub returns-clause-does : goal.returns-clause-does
returns-clause-does g c =
    let step = c.call_cold.ensures in inl (_, step_made step.made, step.answers, c.next_state-state.ensures.does)

pub returns-clause-did : goal.returns-clause-did
returns-clause-did g c =
    let step = c.call_cold.ensures in inl (_, step.did, step.answers, c.next_state-state.ensures.does)
