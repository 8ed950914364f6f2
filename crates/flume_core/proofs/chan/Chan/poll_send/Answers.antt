-- The state of a send, as it is answered.
use Rattle.std.proofs.Common.{refl, ◌∙◌, rules, eq-eqb}
use Rattle.flume_model.specs.Limits.{IsClosed}
use Rattle.flume_state.specs.Notices.{with_signal}
use Rattle.flume_state.specs.Sends.{with_send_notice}
use Rattle.flume_core.proofs.InvariantLemmas.{still, still_signal}
use Rattle.flume_core.proofs.MoveLemmas.{accepts}
use Rattle.flume_core.proofs.ViewLemmas.{open_at_log, closed_at_log}
use Rattle.flume_core.proofs.AnsweringLemmas.{unknown, known, waits, taken_back, closed_where}
use Rattle.flume_core.proofs.NotifyLemmas.{same_marks_noticed}
use Rattle.flume_core.proofs.dues.AfterStepLemmas.{unchanged, spent, given_back, signalled}
use Rattle.flume_core.proofs.chan.Chan.poll_send.Goals as goal

pub returns-in-None-clause-step : goal.returns-in-None-clause-step
returns-in-None-clause-step g c o log h = still o log _ _ _ h (unknown o log c.args.self.now c.args.ticket h cc) refl refl

pub returns-in-Some-true-clause-step : goal.returns-in-Some-true-clause-step
returns-in-Some-true-clause-step g c o log h =
    rw c.answer_accepted.ensures.accepted
    (accepts o log _ _ _ c.args.ticket h (known o log c.args.self.now c.args.ticket h cc) refl (search rules))

pub returns-in-Some-false-clause-step : goal.returns-in-Some-false-clause-step
returns-in-Some-false-clause-step g c o log h =
    let waiting = waits o log c.args.self.now c.args.ticket h cc in
    let shut : IsClosed c.args.self.now.senders c.args.self.now.receivers =
    closed_where _ _ (search rules) in
    taken_back o log _ c.args.self.now _ c.args.ticket c.take_back.result h waiting
    (λ m closed is. rw is refl) (λ m closed is blocked_ closed_is. rw is (blocked_, closed_at_log h shut, closed_is ∙ eq-eqb _ _ shut))
    c.take_back.ensures.returned c.take_back.ensures.absent c.take_back.ensures.no_ticket_or_returned

pub returns-in-Some-false-2-clause-step : goal.returns-in-Some-false-2-clause-step
returns-in-Some-false-2-clause-step g c o log h =
    let waiting = waits o log c.args.self.now c.args.ticket h cc in
    still_signal o log _ c.args.self.now _ (with_send_notice (with_signal c.args.signal) c.args.ticket c.args.self.now.sends) h
    (waiting, open_at_log h (search rules)) refl c.replace_signal.ensures.replaced
    (same_marks_noticed (with_signal c.args.signal) c.args.self.now.sends c.args.ticket)

pub returns-in-None-clause-becomes_due : goal.returns-in-None-clause-becomes_due
returns-in-None-clause-becomes_due g c = λ reachable. unchanged _ _ _ _ (λ t. refl) (search rules)

pub returns-in-Some-true-clause-becomes_due : goal.returns-in-Some-true-clause-becomes_due
returns-in-Some-true-clause-becomes_due g c = λ reachable.
    rw c.answer_accepted.ensures.accepted (spent c.args.self.now _ _ _ c.args.ticket c.args.self.now.blocked (λ t. refl) (search rules))

pub returns-in-Some-false-2-clause-becomes_due : goal.returns-in-Some-false-2-clause-becomes_due
returns-in-Some-false-2-clause-becomes_due g c = λ reachable.
    signalled c.args.self.now _ _ _ c.args.ticket c.args.signal (λ t. refl) c.replace_signal.ensures.replaced

pub returns-in-Some-false-clause-becomes_due : goal.returns-in-Some-false-clause-becomes_due
returns-in-Some-false-clause-becomes_due g c = λ reachable.
    given_back c.args.self.now _ _ c.take_back.result c.args.ticket (λ t. refl) c.take_back.ensures.returned
    c.take_back.ensures.unchanged c.take_back.ensures.no_ticket_or_returned
