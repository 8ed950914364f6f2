use Rattle.flume_laws.proofs.PhaseLemmas.{in_phases}
use Rattle.flume_laws.proofs.laws.what_was_sent_before_comes_before.Goals as goal

pub returns : goal.returns
returns g c = record {
  law = λ capacity parties parties' parties'' early late others all sents sents' sents'' gots
      gots' gots'' merged calls merged' calls' merged'' calls'' both whole.
      in_phases early late merged calls merged' calls' merged'' calls'' both whole;
}
