-- A receive that does not park, and one that does.
use Rattle.std.proofs.Common.{◌≡◌, ◌<◌, refl, ap, ◌∙◌, rules, arith}
use Rattle.flume_model.specs.Limits.{most}
use Rattle.flume_core.proofs.ReceiveLemmas.{parks}
use Rattle.flume_core.proofs.ViewLemmas.{open_at_log}
use Rattle.flume_core.proofs.AnsweringLemmas.{empty_line}
use Rattle.flume_core.proofs.TryLemmas.{recv_as_try, recv_comes}
use Rattle.flume_core.proofs.dues.AfterStepLemmas.{parked}
use Rattle.flume_core.proofs.chan.Chan.recv.Goals as goal

pub returns-in_default-clause-step : goal.returns-in_default-clause-step
returns-in_default-clause-step g c o log h =
    recv_as_try o log c.args.kind c.try_recv.result _ (c.try_recv.ensures.step o log h) c.in_default.not-Empty

pub returns-in_default-clause-possible_reply : goal.returns-in_default-clause-possible_reply
returns-in_default-clause-possible_reply g c =
    recv_comes c.args.kind c.try_recv.result c.try_recv.ensures.possible_reply c.in_default.not-Empty

pub returns-clause-step : goal.returns-clause-step
returns-clause-step g c o log h =
    let same = c.self.view_is ∙ c.in-Empty.ensures.unchanged tt in
    let next : c.self.inside.next_ticket ≡ c.args.self.now.next_ticket = ap (λ s. s.next_ticket) same in
    let found = c.in-Empty.ensures.empty.0 refl in
    let some_left : c.args.self.now.next_ticket < most = rw (← next) (search rules) in
    parks o log _ c.args.self.now _ c.args.kind c.args.signal h
    (empty_line o log c.args.self.now h found.0, open_at_log h found.1, omega (arith, h.next_is, some_left), next ∙ h.next_is)
    (rw next refl) (search rules)

pub returns-in_default-clause-becomes_due : goal.returns-in_default-clause-becomes_due
returns-in_default-clause-becomes_due g c = λ reachable.
    (let due = c.try_recv.ensures.becomes_due reachable in record { sends = due.sends; receivers = due.receivers })

pub returns-clause-becomes_due : goal.returns-clause-becomes_due
returns-clause-becomes_due g c = λ reachable. parked c.args.self.now _ _ _ c.args.kind c.args.signal (λ t. refl) reachable (search rules)
