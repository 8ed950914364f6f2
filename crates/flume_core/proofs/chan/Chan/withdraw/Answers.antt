-- How a parked receiver is answered that leaves.
use Rattle.std.proofs.Common.{refl, rules, inl, inr}
use Rattle.flume_state.specs.declared.entries.ReceiverStatus.TheVariants.{Waiting, Woken}
use Rattle.flume_core.proofs.AskLemmas.{withdraw_none, withdraw_collects, withdraw_takes, withdraw_leaves, withdraw_passes}
use Rattle.flume_core.proofs.AskedMarkLemmas.{blocks_else}
use Rattle.flume_core.proofs.dues.AfterStepLemmas.{unchanged, left, took_parked, passed}
use Rattle.flume_core.proofs.chan.Chan.withdraw.Goals as goal

pub returns-in_default-clause-step : goal.returns-in_default-clause-step
returns-in_default-clause-step g c o log h = withdraw_none o log c.args.self.now _ c.args.ticket h (search rules) refl

pub returns-in-Filled-clause-step : goal.returns-in-Filled-clause-step
returns-in-Filled-clause-step g c o log h =
    withdraw_collects o log c.args.self.now _ c.args.ticket c.collect.result h (search rules) c.collect.ensures.got (search rules)

pub returns-in-Waiting-clause-step : goal.returns-in-Waiting-clause-step
returns-in-Waiting-clause-step g c o log h =
    rw c.pass_on.ensures.gone
    (withdraw_passes o log c.args.self.now _ c.args.ticket Waiting _ _ h (search rules) (inl refl) refl refl (search rules))

pub returns-in-Woken-clause-step : goal.returns-in-Woken-clause-step
returns-in-Woken-clause-step g c o log h =
    rw c.pass_on-in-Woken.ensures.gone
    (withdraw_passes o log c.args.self.now _ c.args.ticket Woken _ _ h (search rules) (inr refl) refl refl (search rules))

pub returns-in-Some-front-clause-step : goal.returns-in-Some-front-clause-step
returns-in-Some-front-clause-step g c o log h =
    let else_ = c.in_default-status in
    let front = c.in-Some-front.ensures.some in
    withdraw_takes o log c.args.self.now _ c.args.ticket c.in-Some.status c.in-Some-front.message front.0 h (search rules)
    (blocks_else c.in-Some.status else_.not-Filled else_.not-Waiting else_.not-Woken) front.1 (search rules)

pub returns-clause-step : goal.returns-clause-step
returns-clause-step g c o log h =
    let else_ = c.in_default-status in
    withdraw_leaves o log c.args.self.now _ c.args.ticket c.in-Some.status _ h (search rules)
    (blocks_else c.in-Some.status else_.not-Filled else_.not-Waiting else_.not-Woken) (search rules) (search rules) (search rules)

pub returns-in_default-clause-becomes_due : goal.returns-in_default-clause-becomes_due
returns-in_default-clause-becomes_due g c = λ reachable. unchanged _ _ _ _ (λ t. refl) (search rules)

pub returns-in-Filled-clause-becomes_due : goal.returns-in-Filled-clause-becomes_due
returns-in-Filled-clause-becomes_due g c = λ reachable. left c.args.self.now _ _ _ c.args.ticket (λ t. refl) reachable (search rules)

pub returns-in-Waiting-clause-becomes_due : goal.returns-in-Waiting-clause-becomes_due
returns-in-Waiting-clause-becomes_due g c = λ reachable. passed c.args.self.now _ _ _ c.args.ticket (λ t. refl) reachable (search rules)

pub returns-in-Woken-clause-becomes_due : goal.returns-in-Woken-clause-becomes_due
returns-in-Woken-clause-becomes_due g c = λ reachable. passed c.args.self.now _ _ _ c.args.ticket (λ t. refl) reachable (search rules)

pub returns-in-Some-front-clause-becomes_due : goal.returns-in-Some-front-clause-becomes_due
returns-in-Some-front-clause-becomes_due g c = λ reachable.
    let front = c.in-Some-front.ensures.some in
    took_parked c.args.self.now _ _ _ front.0 c.args.ticket (λ t. refl) reachable (search rules)

pub returns-clause-becomes_due : goal.returns-clause-becomes_due
returns-clause-becomes_due g c = λ reachable. left c.args.self.now _ _ _ c.args.ticket (λ t. refl) reachable (search rules)
