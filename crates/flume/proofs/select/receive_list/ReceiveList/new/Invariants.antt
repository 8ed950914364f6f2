use Rattle.std.proofs.Common.{◌≡◌, map, take, length}
use Rattle.std.specs.Vec.{vec_len, vec_capacity}
use Rattle.flume.specs.declared.select.receive.ReceiveState.{ReceiveState}
use Rattle.flume.proofs.select.receive_list.ReceiveList.new.Given as goal

-- a state for each receiver so far, and room for the others
abbrev pub invariant-loop-receiver : goal.invariant-loop-receiver
invariant-loop-receiver g l = record {
  states : vec_len l.states ≡ l._receiver-index;
  room : vec_capacity l.states ≡ length l.receivers;
  unstarted : l.states.items ≡ map (λ _. ReceiveState.Unstarted) (take l._receiver-index l.receivers);
}
