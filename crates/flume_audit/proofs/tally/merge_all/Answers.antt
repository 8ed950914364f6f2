use Rattle.std.proofs.Common.{rules, arith}
use Rattle.std.specs.Prelude.{◌≡◌, [], vec_len, refl}
use Rattle.flume_audit.specs.Weights.{lists_weight}
use Rattle.flume_audit.proofs.tally.merge_all.Goals as goal

-- once no seat is left, the share has every part, and the amounts of all
pub returns-clause-weight : goal.returns-clause-weight
returns-clause-weight g c =
    let none : c.loop-seat.seats.items ≡ [] = search rules in
    let weight : lists_weight g.W.Weigh.weight c.loop-seat.seats.items ≡ 0 =
    rw none refl in
    let len : vec_len c.loop-seat.seats ≡ 0 = search rules in
    let whole = c.audit.ensures.whole in
    omega (arith, whole)
