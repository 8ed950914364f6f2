-- A send that does not block, and one that does.
use Rattle.std.proofs.Common.{◌≡◌, ◌<◌, refl, ap, ◌∙◌, rules, arith}
use Rattle.flume_model.specs.declared.step.Reply.TheVariants.{Full}
use Rattle.flume_model.specs.Limits.{most}
use Rattle.flume_core.proofs.MoveLemmas.{blocks}
use Rattle.flume_core.proofs.AnsweringLemmas.{takes_none_in}
use Rattle.flume_core.proofs.TryLemmas.{send_as_try, send_comes, try_never_spent}
use Rattle.flume_core.proofs.InvariantLemmas.{still}
use Rattle.flume_core.proofs.ViewLemmas.{open_at_log}
use Rattle.flume_core.proofs.dues.AfterStepLemmas.{unchanged, blocks as blocks_due}
use Rattle.flume_core.proofs.chan.Chan.send.Goals as goal

pub returns-in_default-clause-step : goal.returns-in_default-clause-step
returns-in_default-clause-step g c o log h =
    send_as_try o log c.args.message c.try_send.result _ (c.try_send.ensures.step o log h) c.in_default.not-Full

pub returns-in_default-clause-possible_reply : goal.returns-in_default-clause-possible_reply
returns-in_default-clause-possible_reply g c =
    send_comes c.args.message c.try_send.result c.try_send.ensures.possible_reply c.in_default.not-Full

pub returns-in_default-clause-closed : goal.returns-in_default-clause-closed
returns-in_default-clause-closed g c = c.try_send.ensures.closed

pub returns-in_default-clause-spent : goal.returns-in_default-clause-spent
returns-in_default-clause-spent g c = (
  (λ is. absurd (try_never_spent c.args.message c.try_send.result c.try_send.ensures.possible_reply _ is)),
  (λ at. absurd (c.in_default.not-Full _ (c.try_send.ensures.full.1 (at.0, at.1, at.2)))),
)

pub returns-clause-step : goal.returns-clause-step
returns-clause-step g c o log h =
    let same = c.self.view_is ∙ c.in-Full.ensures.unchanged tt in
    let next : c.self.inside.next_ticket ≡ c.args.self.now.next_ticket = ap (λ s. s.next_ticket) same in
    let found = c.in-Full.ensures.full.0 (ap Full c.in-Full.ensures.possible_reply) in
    let some_left : c.args.self.now.next_ticket < most = rw (← next) (search rules) in
    blocks o log _ c.args.self.now _ c.args.message c.args.signal c.block.new.self.space h
    (takes_none_in h found.0 found.1 found.2, omega (arith, h.next_is, some_left), next ∙ h.next_is)
    (rw next refl) (search rules)

pub returns-in_default-clause-becomes_due : goal.returns-in_default-clause-becomes_due
returns-in_default-clause-becomes_due g c = λ reachable.
    (let due = c.try_send.ensures.becomes_due reachable in record { sends = due.sends; receivers = due.receivers })

pub returns-clause-becomes_due : goal.returns-clause-becomes_due
returns-clause-becomes_due g c = λ reachable.
    blocks_due c.args.self.now _ _ _ (record { ticket = c.args.self.now.next_ticket; message = c.args.message }) c.args.signal
    c.block.new.self.space
    (λ t. refl) reachable (search rules)

pub returns-in-Err-clause-step : goal.returns-in-Err-clause-step
returns-in-Err-clause-step g c o log h =
    let same = c.self.view_is ∙ c.in-Full.ensures.unchanged tt in
    let next : c.self.inside.next_ticket ≡ c.args.self.now.next_ticket = ap (λ s. s.next_ticket) same in
    let found = c.in-Full.ensures.full.0 (ap Full c.in-Full.ensures.possible_reply) in
    let some_left : c.args.self.now.next_ticket < most = rw (← next) (search rules) in
    still o log _ c.args.self.now _ h (open_at_log h found.0, (λ none. omega (arith, h.next_is, some_left)), search rules) refl
    (search rules)

pub returns-in-Err-clause-becomes_due : goal.returns-in-Err-clause-becomes_due
returns-in-Err-clause-becomes_due g c = λ reachable. unchanged _ _ _ _ (λ t. refl) (search rules)
