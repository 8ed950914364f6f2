use Rattle.std.proofs.Common.{◌≡◌, ℕ, Some, None, length}
use Rattle.futures.specs.Task.{Covers, Keeps}
use Rattle.flume_calls.specs.declared.polled.send.PolledSend.TheVariants.{Parked, Finished}
use Rattle.flume.specs.ManySendCalls.{PollLeaves}
use Rattle.flume.specs.ManySendPolls.{PollsSends}
use Rattle.flume.proofs.polled.sink.SendSink.poll_send_many.Given as goal

-- what the polls so far leave of the list, and that of the last one is answered
abbrev pub invariant-loop-answer : goal.invariant-loop-answer
invariant-loop-answer g l = record {
  made : PollsSends g.row.A.Denot l.fn.self.future.send l.fn.messages.items l.messages.items l.self.future.send l.answer;
  leaves : PollLeaves l.fn.self.future.send l.fn.messages.items l.messages.items l.answer;
  finished : (answer : _) → l.answer ≡ Some answer → l.self.future.send ≡ Finished;
  parked : l.answer ≡ None → (ticket : ℕ) × (l.self.future.send ≡ Parked ticket);
  sender : l.self.future.sender ≡ l.fn.self.future.sender;
  registered : l.answer ≡ None → Covers l.cx (λ source. source ≡ l.self.future.task.source.id);
  kept : Keeps l.fn.cx l.cx;
}

abbrev pub decreases-loop-answer : goal.decreases-loop-answer
decreases-loop-answer g l = length l.messages.items
