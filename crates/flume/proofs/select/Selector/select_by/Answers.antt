-- A selection is a wait for one of the arms, with its value, and no other arm has a message.
use Rattle.std.proofs.Common.{subst}
use Rattle.flume.proofs.SelectionLemmas.{race_failed, race_won}
use Rattle.flume.proofs.SelectionIdleLemmas.{idle_raced}
use Rattle.flume.proofs.select.Selector.select_by.Goals as goal

pub returns-in-Err-clause-made : goal.returns-in-Err-clause-made
returns-in-Err-clause-made g c = race_failed c.in-Err.ensures.run

pub returns-in-Err-clause-called : goal.returns-in-Err-clause-called
returns-in-Err-clause-called g c = λ idle.
    subst (λ m. g.L.ArmsBy.stand_by m c.into_parties.result) c.race.ensures.mappers
    (c.into_parties.ensures.stand_by (idle_raced g.met.L.ArmsBy.idle _ _ c.in-Err.ensures.run idle))

pub returns-clause-made : goal.returns-clause-made
returns-clause-made g c = race_won c.in-Ok.ensures.run (rw c.in-Some.is at c.value_by-value.ensures.answers)

pub returns-clause-called : goal.returns-clause-called
returns-clause-called g c = λ idle.
    let others = idle_raced g.met.L.ArmsBy.idle _ _ c.in-Ok.ensures.run idle in
    subst (λ m. g.L.ArmsBy.completes m c.in-Some.value c.value_by-value.result.1) c.race.ensures.mappers
    (rw c.in-Some.is at (c.value_by-value.ensures.completes others))
