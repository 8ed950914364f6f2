-- Why some job has no value.
use Rattle.std.proofs.Common.{◌∙◌, sym, arith}
use Rattle.parallel_map.specs.SlotValues.{NoRoom, FirstEmpty}
use Rattle.parallel_map.proofs.ReceivedLemmas.{error_is}
use Rattle.parallel_map.proofs.answers.in_order.Goals as goal

pub returns-in_err-push-in-Some-clause-lacks : goal.returns-in_err-push-in-Some-clause-lacks
returns-in_err-push-in-Some-clause-lacks g c = error_is c.from_residual.result _ _ NoRoom c.from_residual.ensures.1

pub returns-in-None-clause-lacks : goal.returns-in-None-clause-lacks
returns-in-None-clause-lacks g c =
    let now = c.loop-number.invariant in
    FirstEmpty c.loop-number.number c.loop-number-test.true
    (sym (now.behind c.loop-number.number (omega arith)) ∙ c.in-None.ensures.none) now.before
