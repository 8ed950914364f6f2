-- A query changes nothing.
use Rattle.std.proofs.Common.{refl, rules}
use Rattle.flume_core.proofs.InvariantLemmas.{still}
use Rattle.flume_core.proofs.ViewLemmas.{queue_len_is}
use Rattle.flume_core.proofs.dues.AfterStepLemmas.{unchanged}
use Rattle.flume_core.proofs.chan.Chan.is_empty.Goals as goal

pub returns-clause-step : goal.returns-clause-step
returns-clause-step g c o log h = let many = queue_len_is h in still o log _ _ _ h (search rules) refl refl

pub returns-clause-becomes_due : goal.returns-clause-becomes_due
returns-clause-becomes_due g c = unchanged _ _ _ _ (λ t. refl) refl
