use Rattle.std.proofs.Common.{rules, []}
use Rattle.flume.specs.Callers.{HasMadeCalls}
use Rattle.flume_laws.proofs.TakeInLemmas.{split_off, only_received, take_in_sender}
use Rattle.flume_laws.proofs.TakeInLemmas.{take_in_receiver, exchanged, two_in_order, two_routed}
use Rattle.example_exchange.proofs.exchanging.exchange_named.Goals as goal

pub returns : goal.returns
returns g c =
    let first = c.split_off.ensures in
    let second = c.split_off-2.ensures in
    let third = c.split_off-right.ensures in
    let sent : HasMadeCalls c.split_off.result c.in_ok-a.a c.args.first.now []
    × HasMadeCalls c.split_off-2.result c.in_ok-a.b c.args.second.now [] = search rules in
    let left = c.in_ok-left.left in
    let right = c.in_ok-left.right in
    let got : HasMadeCalls c.split_off-right.new.self left.me [] left.items.items
    × HasMadeCalls c.split_off-right.result right.me [] right.items.items = search rules in
    let rest = split_off (split_off (split_off c.in_ok-tx.ensures.party first.rest) second.rest)
    third.rest in
    let senders = take_in_sender (take_in_sender (only_received rest got.0) first.new sent.0
    c.merge.ensures.merged) second.new sent.1 c.merge-2.ensures.merged in
    let all = take_in_receiver senders third.new got.1 c.merge-3.ensures.merged in
    let line = exchanged all c.in-Some-eq0.ensures.whole c.in-Some-eq0.field-0-test in
    record {
      exchanged = (line.0, two_in_order line.1, two_in_order line.2);
      routed = two_routed line;
    }
