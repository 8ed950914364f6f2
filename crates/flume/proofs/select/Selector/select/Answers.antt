-- A selection is a wait for one of the arms, and the value of the arm that completed.
use Rattle.std.proofs.Common.{◌≡◌, Err, rules}
use Rattle.flume.proofs.SelectionLemmas.{race_failed, race_won}
use Rattle.flume.proofs.select.Selector.select.Goals as goal

pub returns-in_err-arm-clause-made : goal.returns-in_err-arm-clause-made
returns-in_err-arm-clause-made g c =
    let failed : c.from_residual.result ≡ Err c.in_err-arm.field-0.0 = search rules in
    rw failed (race_failed c.in_err-arm.ensures.run)

pub returns-clause-made : goal.returns-clause-made
returns-clause-made g c = race_won c.in_ok-arm.ensures.run c.in-Some.ensures.answers
