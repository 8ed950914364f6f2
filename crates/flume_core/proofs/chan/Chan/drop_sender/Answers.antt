-- An end that is not there, and one that leaves.
use Rattle.std.proofs.Common.{◌-◌, refl, rules}
use Rattle.flume_model.specs.Log.{SenderLeaves}
use Rattle.flume_core.proofs.InvariantLemmas.{still}
use Rattle.flume_core.proofs.ClosingLemmas.{leaves}
use Rattle.flume_core.proofs.dues.AfterStepLemmas.{unchanged, leaves as leaves_due}
use Rattle.flume_core.proofs.chan.Chan.drop_sender.Goals as goal

pub returns-then-self-eq0-clause-step : goal.returns-then-self-eq0-clause-step
returns-then-self-eq0-clause-step g c o log h = still o log _ _ _ h (search rules) refl refl

pub returns-clause-step : goal.returns-clause-step
returns-clause-step g c o log h = leaves o log _ SenderLeaves c.args.self.now _ h (search rules) refl refl (search rules)

pub returns-then-self-eq0-clause-becomes_due : goal.returns-then-self-eq0-clause-becomes_due
returns-then-self-eq0-clause-becomes_due g c = λ reachable. unchanged _ _ _ _ (λ t. refl) (search rules)

pub returns-clause-becomes_due : goal.returns-clause-becomes_due
returns-clause-becomes_due g c = λ reachable.
    leaves_due c.args.self.now _ _ _ (c.args.self.now.senders - 1) c.args.self.now.receivers (λ t. refl) reachable (search rules)
