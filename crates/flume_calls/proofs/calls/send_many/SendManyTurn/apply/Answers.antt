-- Each message is taken in and the batch goes on, or it stops there.
use Rattle.std.proofs.Common.{◌≡◌, [], ◌∷◌, length, Some, refl, ap, ◌∙◌, arith, rules}
use Rattle.flume_model.specs.declared.step.Reply.TheVariants.{NoMemory}
use Rattle.flume_calls.specs.ManySends.{NoneLeft, IsFull, IsClosed, IsRefused}
use Rattle.flume_calls.specs.Batches.{NoSteps}
use Rattle.flume_calls.proofs.ManySendLemmas.{offered, taken_in, one_step, all_left, first_sent, one_at_most, refused}
use Rattle.flume_calls.proofs.calls.send_many.SendManyTurn.apply.Goals as goal

pub loop-message-preserved : goal.loop-message-preserved
loop-message-preserved g c =
    let items = c.in-Some.ensures.items in
    let said = c.in-Sent.ensures in
    let made = offered said.step said.becomes_due said.possible_reply said.space said.succeeds said.unchanged in
    record {
      from_here = λ new answer batch. c.loop-message.invariant.from_here new answer
          (rw items (taken_in {filled = c.in-Sent.filled} made batch));
      rest = λ left is. c.loop-message.invariant.rest left (rw items (first_sent _ _ left is));
      fits = λ space.
          let before = c.loop-message.invariant.fits space in
          let one : length c.loop-message.messages.items ≡ length (c.in-Some.message ∷ c.pop_front.new.self.items) = ap length items in
          let more = one_at_most c.loop-message.chan c.try_send.new.self c.in-Some.message c.in-Sent.filled
          (c.in-Sent.ensures.sent c.in-Sent.filled refl) in
          let kept = c.in-Sent.ensures.space in
          omega arith;
    }

pub returns-in-Full-clause-does : goal.returns-in-Full-clause-does
returns-in-Full-clause-does g c =
    let items = c.in-Some.ensures.items in
    let same : c.in-Full.back ≡ c.in-Some.message = c.in-Full.ensures.possible_reply in
    let left = rw same at c.put_back.ensures.items in
    let said = c.in-Full.ensures in
    let made = offered said.step said.becomes_due said.possible_reply said.space said.succeeds said.unchanged in (
      c.loop-message.invariant.from_here _ _
          (rw items (one_step (rw same at made) (IsFull left))),
      search rules,
    )

pub returns-in-Full-clause-answers : goal.returns-in-Full-clause-answers
returns-in-Full-clause-answers g c =
    let items = c.in-Some.ensures.items in
    let same : c.in-Full.back ≡ c.in-Some.message = c.in-Full.ensures.possible_reply in
    let left = rw same at c.put_back.ensures.items in
    c.loop-message.invariant.rest _ (rw items (all_left _ _ _ left))

pub returns-in-Closed-clause-does : goal.returns-in-Closed-clause-does
returns-in-Closed-clause-does g c =
    let items = c.in-Some.ensures.items in
    let same : c.in-Closed.back ≡ c.in-Some.message = c.in-Closed.ensures.possible_reply in
    let left = rw same at c.put_back-in-Closed.ensures.items in
    let said = c.in-Closed.ensures in
    let made = offered said.step said.becomes_due said.possible_reply said.space said.succeeds said.unchanged in (
      c.loop-message.invariant.from_here _ _
          (rw items (one_step (rw same at made) (IsClosed left))),
      search rules,
    )

pub returns-in-Closed-clause-answers : goal.returns-in-Closed-clause-answers
returns-in-Closed-clause-answers g c =
    let items = c.in-Some.ensures.items in
    let same : c.in-Closed.back ≡ c.in-Some.message = c.in-Closed.ensures.possible_reply in
    let left = rw same at c.put_back-in-Closed.ensures.items in
    c.loop-message.invariant.rest _ (rw items (all_left _ _ _ left))

pub returns-in-NoMemory-Some-clause-does : goal.returns-in-NoMemory-Some-clause-does
returns-in-NoMemory-Some-clause-does g c =
    let items = c.in-Some.ensures.items in
    let possible_reply = c.in-NoMemory-Some.ensures.possible_reply in
    let same : c.in-NoMemory-Some.back ≡ c.in-Some.message = cc in
    let left = rw same at c.put_back-in-NoMemory-Some.ensures.items in
    let said = c.in-NoMemory-Some.is ∙ ap NoMemory (c.in-NoMemory-Some.field-0-is ∙ ap Some same) in
    let all = c.try_send.ensures in
    let made = offered all.step all.becomes_due all.possible_reply all.space all.succeeds all.unchanged in (
      c.loop-message.invariant.from_here _ _
          (rw items (one_step (rw said at made) (IsRefused left))),
      refused c.args.chan.now c.loop-message.chan c.try_send.new.self c.args.self.messages.items c.loop-message.messages.items _
          (c.in-NoMemory-Some.ensures.unchanged tt) (λ space. c.try_send.ensures.succeeds space said)
          (rw c.in-Some.ensures.items (omega arith)) c.loop-message.invariant.fits,
    )

pub returns-in-NoMemory-Some-clause-answers : goal.returns-in-NoMemory-Some-clause-answers
returns-in-NoMemory-Some-clause-answers g c =
    let items = c.in-Some.ensures.items in
    let possible_reply = c.in-NoMemory-Some.ensures.possible_reply in
    let same : c.in-NoMemory-Some.back ≡ c.in-Some.message = cc in
    let left = rw same at c.put_back-in-NoMemory-Some.ensures.items in
    c.loop-message.invariant.rest _ (rw items (all_left _ _ _ left))

pub returns-clause-does : goal.returns-clause-does
returns-clause-does g c =
    let none : c.loop-message.messages.items ≡ [] = search rules in
    (c.loop-message.invariant.from_here _ _ (record { made = _; reachable = NoSteps; answered = rw none NoneLeft }), search rules)
