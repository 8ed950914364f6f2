-- A trace goes to another thread with what it protects.
use denote.RattleType.{RattleType}
use denote.Param.Send.{IsSend}
use Rattle.flume_trace.specs.declared.TraceName.{Ghosts}
use Rattle.flume_trace.specs.contracts.Trace.{the_row}
use Rattle.flume_trace.proofs.CrossingLemmas.{trace_keyless}

pub send : (E J : RattleType) (g : Ghosts J.Denot) → IsSend (the_row E J g)
send E J g = record {
  owned = λ d vs. (
    (λ vss. (tt, ((λ uss. (tt, tt)), tt))),
    trace_keyless E.coded.code g.trace_name g.positions_name d.writes,
  );
  leaving = λ k f vs. tt;
}
