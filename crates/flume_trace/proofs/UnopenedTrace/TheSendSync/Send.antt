-- The trace can be opened by another thread.
use denote.Param.Send.{IsSend}
use Rattle.flume_trace.specs.contracts.UnopenedTrace.{the_row}
use Rattle.flume_trace.proofs.CrossingLemmas.{unopened_keyless}

pub send : IsSend the_row
send = record {
  owned = λ d vs. ((λ vss. (tt, ((λ uss. (tt, tt)), tt))), unopened_keyless d.trace_name d.positions_name);
  leaving = λ k f vs. tt;
}
