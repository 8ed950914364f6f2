-- A try through the gate is one of the arms, and no arm has a message but the one that completed.
use Rattle.std.proofs.Common.{ap, subst}
use Rattle.flume.specs.SelectionCalls.{Tries}
use Rattle.flume.proofs.SelectionLemmas.{tries_arms, tried_value}
use Rattle.flume.proofs.SelectionIdleLemmas.{idle_tried, tried_parties}
use Rattle.flume.specs.SelectionParties.{HasTriedArms}
use Rattle.std.proofs.Common.{Ok}
use Rattle.flume.proofs.select.Selector.try_wait_by.Goals as goal

pub returns-in-Ok-Some-clause-made : goal.returns-in-Ok-Some-clause-made
returns-in-Ok-Some-clause-made g c =
    let completed = rw c.in-Ok-Some.field-0-is at c.in-Ok-Some.ensures.completed in
    tried_value _ (tries_arms g.L.Arms.mappers g.L.Arms.count g.L.Arms.turns (rw c.in-Ok-Some.field-0-is at c.in-Ok-Some.ensures.run))
    (c.value_by-value.ensures.completed.0 completed.completed) c.value_by-value.ensures.answers

pub returns-in-Ok-Some-clause-called : goal.returns-in-Ok-Some-clause-called
returns-in-Ok-Some-clause-called g c = λ idle.
    let completed = rw c.in-Ok-Some.field-0-is at c.in-Ok-Some.ensures.completed in
    let tried = tries_arms g.L.Arms.mappers g.L.Arms.count g.L.Arms.turns (rw c.in-Ok-Some.field-0-is at c.in-Ok-Some.ensures.run) in
    let others = idle_tried g.met.L.ArmsBy.idle _ _ tried idle in
    subst (λ m. HasTriedArms g.L.ArmsBy.completes g.L.ArmsBy.stand_by m (Ok c.value_by-value.result.0) c.value_by-value.result.1)
    (ap (λ s. s.0) c.try_select_over.ensures.setup)
    (tried_parties g.L.ArmsBy.completes g.L.ArmsBy.stand_by _ _ _ (c.value_by-value.ensures.completed.0 completed.completed) (c.value_by-value.ensures.completes others))

pub returns-in-Ok-None-clause-made : goal.returns-in-Ok-None-clause-made
returns-in-Ok-None-clause-made g c = Tries.EachWaits
    (tries_arms g.L.Arms.mappers g.L.Arms.count g.L.Arms.turns (rw c.in-Ok-None.field-0-is at c.in-Ok-None.ensures.run))

pub returns-in-Ok-None-clause-called : goal.returns-in-Ok-None-clause-called
returns-in-Ok-None-clause-called g c = λ idle.
    let tried = tries_arms g.L.Arms.mappers g.L.Arms.count g.L.Arms.turns (rw c.in-Ok-None.field-0-is at c.in-Ok-None.ensures.run) in
    subst (λ m. g.L.ArmsBy.stand_by m c.into_parties.result) (ap (λ s. s.0) c.try_select_over.ensures.setup)
    (c.into_parties.ensures.stand_by (idle_tried g.met.L.ArmsBy.idle _ _ tried idle))

pub returns-in-Err-clause-made : goal.returns-in-Err-clause-made
returns-in-Err-clause-made g c = Tries.Refused (tries_arms g.L.Arms.mappers g.L.Arms.count g.L.Arms.turns c.in-Err.ensures.run)

pub returns-in-Err-clause-called : goal.returns-in-Err-clause-called
returns-in-Err-clause-called g c = λ idle.
    let tried = tries_arms g.L.Arms.mappers g.L.Arms.count g.L.Arms.turns c.in-Err.ensures.run in
    subst (λ m. g.L.ArmsBy.stand_by m c.into_parties-in-Err.result) (ap (λ s. s.0) c.try_select_over.ensures.setup)
    (c.into_parties-in-Err.ensures.stand_by (idle_tried g.met.L.ArmsBy.idle _ _ tried idle))
