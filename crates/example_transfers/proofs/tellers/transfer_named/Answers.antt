use Rattle.std.proofs.Common.{rules, ◌≡◌, ◌+◌, sum}
use Rattle.flume_laws.specs.Invariants.{HasMadeCallsWhere}
use Rattle.flume_laws.proofs.InvariantLemmas.{total_kept}
use Rattle.flume_laws.proofs.TakeInLemmas.{none_taken_in, split_off, take_in, sums_kept}
use Rattle.example_transfers.proofs.tellers.transfer_named.Goals as goal

pub returns : goal.returns
returns g c =
    let one = c.in_ok-one.field-0 in
    let other = c.in_ok-other.field-0 in
    let left : HasMadeCallsWhere c.split_off.result one.0
    (λ sent got. one.1 + sum sent ≡ c.args.accounts.0 + sum got) = search rules in
    let right : HasMadeCallsWhere c.split_off-2.result other.0
    (λ sent got. other.1 + sum sent ≡ c.args.accounts.1 + sum got) = search rules in
    let none = none_taken_in (split_off (split_off c.in_ok-tx.ensures.party
    c.split_off.ensures.rest) c.split_off-2.ensures.rest) in
    let all = take_in (take_in none c.split_off.ensures.new left.calls c.merge.ensures.merged)
    c.split_off-2.ensures.new right.calls c.merge-2.ensures.merged in
    let sums = sums_kept all c.in-Some-eq0.ensures.whole c.in-Some-eq0.field-0-test (λ x. x) in
    record { kept = total_kept (λ x. x) _ _ _ _ left right sums }
