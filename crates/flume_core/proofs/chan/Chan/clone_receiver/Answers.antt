-- A refused clone changes nothing, and another one counts one end more.
use Rattle.std.proofs.Common.{◌+◌, refl, rules, arith}
use Rattle.flume_model.specs.Log.{ReceiverJoins}
use Rattle.flume_core.proofs.InvariantLemmas.{still, counts_open}
use Rattle.flume_core.proofs.dues.AfterStepLemmas.{unchanged, counted}
use Rattle.flume_core.proofs.chan.Chan.clone_receiver.Goals as goal

pub returns-in-0-clause-step : goal.returns-in-0-clause-step
returns-in-0-clause-step g c o log h = still o log _ _ _ h (search rules) refl refl

pub returns-in-18446744073709551615-clause-step : goal.returns-in-18446744073709551615-clause-step
returns-in-18446744073709551615-clause-step g c o log h = still o log _ _ _ h (search rules) refl refl

pub returns-in_default-clause-step : goal.returns-in_default-clause-step
returns-in_default-clause-step g c o log h =
    counts_open o log _ ReceiverJoins c.args.self.now _ c.args.self.now.sends c.args.self.now.entries h (search rules) refl refl
    (search rules) (λ t. refl) refl (omega arith) refl (omega arith)

pub returns-in-0-clause-becomes_due : goal.returns-in-0-clause-becomes_due
returns-in-0-clause-becomes_due g c = λ reachable. unchanged _ _ _ _ (λ t. refl) (search rules)

pub returns-in-18446744073709551615-clause-becomes_due : goal.returns-in-18446744073709551615-clause-becomes_due
returns-in-18446744073709551615-clause-becomes_due g c = λ reachable. unchanged _ _ _ _ (λ t. refl) (search rules)

pub returns-in_default-clause-becomes_due : goal.returns-in_default-clause-becomes_due
returns-in_default-clause-becomes_due g c = λ reachable.
    counted c.args.self.now _ _ _ c.args.self.now.senders (c.args.self.now.receivers + 1) (λ t. refl) (omega arith) (omega arith)
    (search rules)
