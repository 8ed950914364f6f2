-- A try through the gate is one of the arms, and its value is that of the arm that completed.
use Rattle.std.proofs.Common.{◌≡◌, Err, rules}
use Rattle.flume.specs.SelectionCalls.{Tries}
use Rattle.flume.proofs.SelectionLemmas.{tries_arms, tried_value}
use Rattle.flume.proofs.select.Selector.try_wait.Goals as goal

pub returns-in_err-arm-clause-made : goal.returns-in_err-arm-clause-made
returns-in_err-arm-clause-made g c =
    let failed : c.from_residual.result ≡ Err c.in_err-arm.field-0.0 = search rules in
    rw failed (Tries.Refused (tries_arms g.L.Arms.mappers g.L.Arms.count g.L.Arms.turns c.in_err-arm.ensures.run))

pub returns-in-Some-clause-made : goal.returns-in-Some-clause-made
returns-in-Some-clause-made g c =
    let completed = rw c.in-Some.is at c.in_ok-arm.ensures.completed in
    tried_value _ (tries_arms g.L.Arms.mappers g.L.Arms.count g.L.Arms.turns (rw c.in-Some.is at c.in_ok-arm.ensures.run))
    (c.value.ensures.completed.0 completed.completed) c.value.ensures.answers

pub returns-in-None-clause-made : goal.returns-in-None-clause-made
returns-in-None-clause-made g c = Tries.EachWaits
    (tries_arms g.L.Arms.mappers g.L.Arms.count g.L.Arms.turns (rw c.in-None.is at c.in_ok-arm.ensures.run))
