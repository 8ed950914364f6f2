-- Step by step.
use Rattle.flume_history.proofs.NoMemoryRuleLemmas.{want_allowed, want_only}
use Rattle.flume_history.proofs.laws.no_memory_is_lawful_as_defined.Goals as goal

pub returns : goal.returns
returns g c = record {
  allowed = λ o log s step h. (want_allowed h step, λ lawful. (want_only h step _ lawful).0);
  no_other = λ o log s step back h lawful. (want_only h step back lawful).1;
}
