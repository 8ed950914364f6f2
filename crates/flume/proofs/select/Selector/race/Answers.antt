-- A try of the arms, and a wait for them if each would have to wait.
use Rattle.flume.specs.SelectionCalls.{Races}
use Rattle.flume.proofs.SelectionLemmas.{tries_arms, awaits_arms}
use Rattle.flume.proofs.select.Selector.race.Goals as goal

pub returns-in-Ok-Some-clause-run : goal.returns-in-Ok-Some-clause-run
returns-in-Ok-Some-clause-run g c = Races.AtOnce
    (tries_arms g.L.Arms.mappers g.L.Arms.count g.L.Arms.turns (rw c.in-Ok-Some.field-0-is at c.in-Ok-Some.ensures.run))

pub returns-in-Ok-None-clause-run : goal.returns-in-Ok-None-clause-run
returns-in-Ok-None-clause-run g c = Races.Awaited
    (tries_arms g.L.Arms.mappers g.L.Arms.count g.L.Arms.turns (rw c.in-Ok-None.field-0-is at c.in-Ok-None.ensures.run))
    (awaits_arms g.L.Arms.mappers g.L.Arms.count g.L.Arms.turns g.L.Arms.withdraws c.select_over.ensures.run c.try_select_over.ensures.setup)

pub returns-in-Err-clause-run : goal.returns-in-Err-clause-run
returns-in-Err-clause-run g c = Races.Refused
    (tries_arms g.L.Arms.mappers g.L.Arms.count g.L.Arms.turns c.in-Err.ensures.run)
