use Rattle.std.proofs.Common.{◌≡◌, ◌+◌, vec_len, vec_capacity}
use Rattle.flume_state.specs.State.{message_count}
use Rattle.flume_calls.specs.ManyReceives.{Takes}
use Rattle.flume_calls.proofs.calls.receive_many.take_each.Given as goal

-- this many were taken so far, and the list has as many more
abbrev pub invariant-loop-taken : goal.invariant-loop-taken
invariant-loop-taken g l = record {
  took : Takes g.row.A.Denot l.fn.chan l.fn.buffer.items l._taken l.chan l.buffer.items;
  remaining : message_count l.chan + l._taken ≡ message_count l.fn.chan;
  len : vec_len l.buffer ≡ vec_len l.fn.buffer + l._taken;
  capacity : vec_capacity l.buffer ≡ vec_capacity l.fn.buffer;
}
