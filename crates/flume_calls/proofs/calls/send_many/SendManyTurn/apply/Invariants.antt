use Rattle.std.specs.Prelude.{◌+◌, ◌≤◌, length}
use Rattle.std.specs.VecDeque.{deque_len}
use Rattle.flume_state.specs.State.{message_count}
use Rattle.flume_calls.specs.Batches.{IsBatch}
use Rattle.flume_calls.specs.ManySends.{SendsMany, IsRest}
use Rattle.flume_calls.proofs.calls.send_many.SendManyTurn.apply.Given as goal

-- every batch from here is the end of a batch of the call, and what it leaves is what the call
-- leaves; if there was space for all there is space for the others
abbrev pub invariant-loop-message : goal.invariant-loop-message
invariant-loop-message g l = record {
  from_here : (new : _) (answer : _) → IsBatch {A = g.row.A.Denot} (SendsMany l.messages.items) l.chan new answer
      → IsBatch {A = g.row.A.Denot} (SendsMany l.fn.self.messages.items) l.fn.chan new answer;
  rest : (left : _) → IsRest l.messages.items left → IsRest l.fn.self.messages.items left;
  fits : message_count l.fn.chan + length l.fn.self.messages.items ≤ l.fn.chan.space
      → message_count l.chan + length l.messages.items ≤ l.chan.space;
}

abbrev pub decreases-loop-message : goal.decreases-loop-message
decreases-loop-message g l = deque_len l.messages
