-- The step was made, by the arm's party.
use Rattle.flume.proofs.StepLemmas.{step_made}
use Rattle.flume.proofs.select.send.OfferArm.poll.Goals as goal

pub returns-clause-does : goal.returns-clause-does
returns-clause-does g c =
    let step = c.call_cold.ensures in (_, step_made step.made, step.answers, c.next_state-state.ensures.does)

pub returns-clause-did : goal.returns-clause-did
returns-clause-did g c =
    let step = c.call_cold.ensures in (_, step.did, step.answers, c.next_state-state.ensures.does)
