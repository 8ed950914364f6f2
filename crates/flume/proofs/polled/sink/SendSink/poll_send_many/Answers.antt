-- What one more poll leaves, and that the last of the list are left.
use Rattle.std.proofs.Common.{◌≡◌, Some, Ok, ◌∙◌, rules}
use Rattle.flume.proofs.ManySendLemmas.{poll_end, finished_poll_leaves, sent_poll_leaves, next_leaves}
use Rattle.flume.proofs.ManySendPollLemmas.{polls_go_on}
use Rattle.flume.proofs.polled.sink.SendSink.poll_send_many.Goals as goal

pub returns-in-Some-clause-rest : goal.returns-in-Some-clause-rest
returns-in-Some-clause-rest g c = poll_end _ _ _ _ c.loop-answer.invariant.leaves

pub returns-in-None-clause-rest : goal.returns-in-None-clause-rest
returns-in-None-clause-rest g c = poll_end _ _ _ _ c.loop-answer.invariant.leaves

pub loop-answer-preserved : goal.loop-answer-preserved
loop-answer-preserved g c =
    let ok : c.loop-answer.answer ≡ Some (Ok tt) = search rules in
    let send = c.args.self.now.future.send in
    let all = c.args.messages.now.items in
    let now = c.loop-answer.messages.items in
    let next = c.poll_sends-answer-in-loop-answer.new.messages.items in
    let result = c.poll_sends-answer-in-loop-answer.result in
    let over = c.loop-answer.invariant.finished (Ok tt) ok in
    let leaves = finished_poll_leaves c.loop-answer.self.future.send now next result over
    c.poll_sends-answer-in-loop-answer.ensures.leaves in
    record {
      made = polls_go_on c.loop-answer.invariant.made ok over (rw over at c.poll_sends-answer-in-loop-answer.ensures.made);
      leaves = sent_poll_leaves send all next result
          (next_leaves all now next result (poll_end _ _ _ _ c.loop-answer.invariant.leaves) leaves);
      finished = c.poll_sends-answer-in-loop-answer.ensures.finished;
      parked = c.poll_sends-answer-in-loop-answer.ensures.parked;
      sender = c.poll_sends-answer-in-loop-answer.ensures.sender ∙ c.loop-answer.invariant.sender;
      registered = c.poll_sends-answer-in-loop-answer.ensures.registered;
      kept = λ fact holds. c.poll_sends-answer-in-loop-answer.ensures.kept fact (c.loop-answer.invariant.kept fact holds);
    }
