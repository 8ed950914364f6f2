-- The state of a send that takes its message back.
use Rattle.std.proofs.Common.{refl, ◌∙◌, rules}
use Rattle.flume_core.proofs.InvariantLemmas.{still}
use Rattle.flume_core.proofs.MoveLemmas.{accepts}
use Rattle.flume_core.proofs.AnsweringLemmas.{unknown, known, waits, taken_back, closed_as}
use Rattle.flume_core.proofs.dues.AfterStepLemmas.{unchanged, spent, given_back}
use Rattle.flume_core.proofs.chan.Chan.withdraw_send.Goals as goal

pub returns-in-None-clause-step : goal.returns-in-None-clause-step
returns-in-None-clause-step g c o log h = still o log _ _ _ h (unknown o log c.args.self.now c.args.ticket h cc) refl refl

pub returns-in-Some-true-clause-step : goal.returns-in-Some-true-clause-step
returns-in-Some-true-clause-step g c o log h =
    rw c.answer_accepted.ensures.accepted
    (accepts o log _ _ _ c.args.ticket h (known o log c.args.self.now c.args.ticket h cc) refl (search rules))

pub returns-in-Some-false-clause-step : goal.returns-in-Some-false-clause-step
returns-in-Some-false-clause-step g c o log h =
    let waiting = waits o log c.args.self.now c.args.ticket h cc in
    taken_back o log _ c.args.self.now _ c.args.ticket c.take_back.result h waiting
    (λ m closed is. rw is refl) (λ m closed is blocked_ closed_is. rw is (blocked_, closed_is ∙ closed_as o log _ h))
    c.take_back.ensures.returned c.take_back.ensures.absent c.take_back.ensures.no_ticket_or_returned

pub returns-in-None-clause-becomes_due : goal.returns-in-None-clause-becomes_due
returns-in-None-clause-becomes_due g c = λ reachable. unchanged _ _ _ _ (λ t. refl) (search rules)

pub returns-in-Some-true-clause-becomes_due : goal.returns-in-Some-true-clause-becomes_due
returns-in-Some-true-clause-becomes_due g c = λ reachable.
    rw c.answer_accepted.ensures.accepted (spent c.args.self.now _ _ _ c.args.ticket c.args.self.now.blocked (λ t. refl) (search rules))

pub returns-in-Some-false-clause-becomes_due : goal.returns-in-Some-false-clause-becomes_due
returns-in-Some-false-clause-becomes_due g c = λ reachable.
    given_back c.args.self.now _ _ c.take_back.result c.args.ticket (λ t. refl) c.take_back.ensures.returned
    c.take_back.ensures.unchanged c.take_back.ensures.no_ticket_or_returned
