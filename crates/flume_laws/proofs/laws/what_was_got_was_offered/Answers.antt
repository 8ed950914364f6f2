use Rattle.flume_model.specs.Log.{opens}
use Rattle.flume_laws.proofs.SublistLemmas.{some_of_some}
use Rattle.flume_laws.proofs.GotOfferedLemmas.{offered, got_kept}
use Rattle.flume_laws.proofs.laws.what_was_got_was_offered.Goals as goal

pub returns : goal.returns
returns g c = record {
  offered = λ capacity actions sent got calls part.
      some_of_some (got_kept (opens capacity 1) calls part.among part.run) (offered part.history);
  kept = λ capacity actions sent got calls part. got_kept (opens capacity 1) calls part.among part.run;
}
