use Rattle.std.proofs.Common.{rules, []}
use Rattle.flume.specs.Callers.{HasMadeCalls}
use Rattle.flume_laws.proofs.TakeInLemmas.{none_taken_in, split_off, take_in_sender}
use Rattle.flume_laws.proofs.GoOnLemmas.{go_on_sender, take_in_further_receiver, one_behind_two}
use Rattle.example_transfers.specs.Phases.{HasSentInPhases}
use Rattle.example_transfers.proofs.phases.phases_named.Goals as goal

pub returns : goal.returns
returns g c =
    let first = c.split_off.ensures in
    let second = c.split_off-2.ensures in
    let receiver = c.split_off-receiver.ensures in
    let sent : HasSentInPhases c.split_off-receiver.new.self c.in_ok-all.all
    (c.split_off.result, c.split_off-2.result) c.args.first.now c.args.second.now c.args.third.now =
    search rules in
    let got : HasMadeCalls c.split_off-receiver.result c.in_ok-got.got.me []
    c.in_ok-got.got.items.items = search rules in
    let none = none_taken_in (split_off (split_off (split_off c.in_ok-tx.ensures.party first.rest)
    second.rest) receiver.rest) in
    let early = take_in_sender (take_in_sender none first.new sent.one_sent sent.one_merged)
    second.new sent.other_sent sent.other_merged in
    let all = take_in_further_receiver (go_on_sender early sent.sent) receiver.new got
    c.merge.ensures.merged in
    record {
      phases = one_behind_two all c.in-Some-eq0.ensures.whole c.in-Some-eq0.field-0-test;
    }
