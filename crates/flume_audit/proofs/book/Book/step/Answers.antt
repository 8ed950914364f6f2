use Rattle.std.proofs.Common.{rules, ◌≡◌, ℕ, List, [], ◌∷◌, ◌++◌, length, refl, ◌∙◌, ap}
use Rattle.flume_model.specs.declared.step.Step.{Step}
use Rattle.flume_model.specs.declared.step.Reply.{Reply}
use Rattle.flume_state.proofs.MessageLemmas.{on_err}
use Rattle.flume_audit.specs.declared.receipt.Receipt.{Receipt}
use Rattle.flume_audit.proofs.StepLemmas.{room_serves, pushed, written, entry_weighs, receipt_weighs}
use Rattle.flume_audit.proofs.book.Book.step.Goals as goal

-- a history with room for one more is the same history
pub returns-in_err-try_reserve-2-clause-unchanged :
    goal.returns-in_err-try_reserve-2-clause-unchanged
returns-in_err-try_reserve-2-clause-unchanged g c =
    on_err c.from_residual-in_err-try_reserve-2.result _
    (ap (λ (items : List (Step g.row.T.Denot × Reply g.row.T.Denot g.row.A.Denot)). record {
      opening = c.self.inside.opening;
      history = items;
      channel = c.self.inside.chan;
    }) c.try_reserve.ensures.items ∙ c.self.view_is)

-- the drained list has as many messages as were queued
pub copy_reply-receipt_reply-requires-clause-room : goal.copy_reply-receipt_reply-requires-clause-room
copy_reply-receipt_reply-requires-clause-room g c =
    room_serves _ _ _ c.step-reply.new.self c.args.step c.step-reply.result _ _
    c.self.invariant.0 c.step-reply.ensures.step c.step-reply.ensures.possible_reply
    c.drain_len-drained.ensures.drain c.in_ok-room.ensures.capacity

pub copy_reply-answer-requires-clause-room : goal.copy_reply-answer-requires-clause-room
copy_reply-answer-requires-clause-room g c =
    room_serves _ _ _ c.step-reply.new.self c.args.step c.step-reply.result _ _
    c.self.invariant.0 c.step-reply.ensures.step c.step-reply.ensures.possible_reply
    c.drain_len-drained.ensures.drain c.in_ok-more.ensures.capacity

-- the entry is at the end of the history, and its weight is in the total
pub invariant_of-self-2 : goal.invariant_of-self-2
invariant_of-self-2 g c =
    let grows = pushed (c.args.step, c.step-reply.result) c.try_reserve.ensures.items
    c.push_reserved-2.ensures.items in (
      written _ _ _ _ _ grows (c.step-reply.ensures.step _ _ c.self.invariant.0),
      c.self.invariant.1,
      c.self.invariant.2,
      entry_weighs g.W.Weigh.weight _ _ c.args.step c.step-reply.result _ _ grows
          c.self.invariant.3 c.add_weight.ensures.total,
    )

-- the receipt's weight is in the share's amount
pub invariant_of-seat-2 : goal.invariant_of-seat-2
invariant_of-seat-2 g c =
    let receipt : Receipt g.row.T.Denot g.row.A.Denot =
    record { number = c.len-number.result; step = c.args.step; reply = c.copy_reply-receipt_reply.result } in (
      c.add_weight.ensures.parts ∙ c.seat.invariant.0,
      receipt_weighs g.W.Weigh.weight c.seat.inside.receipts.items c.push_reserved.new.self.items
          c.len-number.result c.args.step c.step-reply.result c.copy_reply-receipt_reply.result
          c.seat.inside.share.amount c.add_weight.new.share.amount
          g.W.Weigh.by_messages c.copy_reply-receipt_reply.ensures.same
          (pushed receipt c.try_reserve-2.ensures.items c.push_reserved.ensures.items)
          c.seat.invariant.1 c.add_weight.ensures.amount,
    )

-- the channel made the step, the history has it and the seat a receipt
pub returns-clause-step : goal.returns-clause-step
returns-clause-step g c =
    let receipt : ℕ → Receipt g.row.T.Denot g.row.A.Denot = λ number.
    record { number = number; step = c.args.step; reply = c.copy_reply-receipt_reply.result } in
    let numbered : c.len-number.result ≡ length c.self.inside.history.items = search rules in
    rw (← c.self.view_is, ← c.seat.view_is) (record {
      reply = c.step-reply.result;
      receipt_reply = c.copy_reply-receipt_reply.result;
      channel =
          let said = c.step-reply.ensures in
          record {
            stepped = record {
              extends = said.step;
              becomes_due = said.becomes_due;
              possible_reply = said.possible_reply;
              space = said.space;
              refused = said.refused;
              unchanged = said.unchanged;
            };
            becomes_due = said.becomes_due (_, _, c.self.invariant.0);
          };
      history = pushed (c.args.step, c.step-reply.result) c.try_reserve.ensures.items
          c.push_reserved-2.ensures.items;
      opening = refl;
      receipt =
          pushed (receipt c.len-number.result) c.try_reserve-2.ensures.items
          c.push_reserved.ensures.items
          ∙ ap (λ number. c.seat.inside.receipts.items ++ receipt number ∷ []) numbered;
      receipt_same = c.copy_reply-receipt_reply.ensures.same;
      answer_same = c.copy_reply-answer.ensures.same;
    })
