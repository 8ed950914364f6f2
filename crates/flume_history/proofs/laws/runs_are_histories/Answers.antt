-- Each reply equals itself.
use Rattle.std.proofs.Common.{sym, subst}
use Rattle.std.proofs.lemmas.List.{reverse-reverse}
use Rattle.flume_history.specs.Equal.{Equals}
use Rattle.flume_history.specs.Histories.{DescribesLog}
use Rattle.flume_history.proofs.EqualityLemmas.{told_by_itself}
use Rattle.flume_history.proofs.laws.runs_are_histories.Goals as goal

pub returns : goal.returns
returns g c = record {
  history = λ o log run. (
    log,
    run,
    subst (λ l. DescribesLog (Equals g.T.PartialEq.eq) l log) (sym (reverse-reverse log))
        (told_by_itself g.T.PartialEq.eq g.met.T.Eq.laws log),
  );
}
