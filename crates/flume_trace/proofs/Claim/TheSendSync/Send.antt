-- A claim goes to another thread.
use denote.RattleType.{RattleType}
use denote.Param.Send.{IsSend}
use Rattle.flume_trace.specs.declared.TraceName.{Ghosts}
use Rattle.flume_trace.specs.contracts.Claim.{the_row}
use Rattle.flume_trace.proofs.CrossingLemmas.{claim_keyless}

pub send : (E J : RattleType) (g : Ghosts J.Denot) → IsSend (the_row E J g)
send E J g = record {
  owned = λ d vs. (
    (λ vss. (tt, ((λ uss. (tt, tt)), tt))),
    claim_keyless E.coded.code g.trace_name g.positions_name d.seen d.positions,
  );
  leaving = λ k f vs. tt;
}
