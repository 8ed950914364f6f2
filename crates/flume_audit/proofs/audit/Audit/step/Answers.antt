use Rattle.std.proofs.lemmas.Result.{IfOk-weaker}
use Rattle.flume_audit.proofs.audit.Audit.step.Goals as goal

-- the seat's receipt is that of the book's step
pub returns-clause-receipt : goal.returns-clause-receipt
returns-clause-receipt g c =
    IfOk-weaker c.step.result _ _ (λ answer made.
    (_, made.reply, made.receipt_reply, made.receipt_same, made.answer_same, made.receipt))
    c.step.ensures.step
