use Rattle.std.proofs.Common.{rules, [], ap, sym, ◌∙◌}
use Rattle.flume.specs.Callers.{HasMadeCalls}
use Rattle.flume_laws.proofs.TakeInLemmas.{none_taken_in, split_off, take_in_sender}
use Rattle.flume_laws.proofs.TakeInLemmas.{take_in_receiver, exchanged_so_far, left_within}
use Rattle.example_transfers.proofs.window.window_named.Goals as goal

pub returns-clause-window : goal.returns-clause-window
returns-clause-window g c =
    let sender = c.split_off-sender.ensures in
    let receiver = c.split_off-receiver.ensures in
    let sent : HasMadeCalls c.split_off-sender.result c.in_ok-sent.field-0.0
    c.in_ok-sent.field-0.1.items [] = search rules in
    let got : HasMadeCalls c.split_off-receiver.result c.in_ok-receiver.field-0.0 []
    c.in_ok-receiver.field-0.1.items = search rules in
    let none = none_taken_in (split_off (split_off c.in_ok-tx.ensures.party sender.rest)
    receiver.rest) in
    let all = take_in_receiver (take_in_sender none sender.new sent c.merge.ensures.merged)
    receiver.new got c.merge-2.ensures.merged in
    let capacity = sym (ap (λ channel. channel.capacity) c.requires.named) ∙ c.requires.bounded in
    left_within (exchanged_so_far all c.in-Some.ensures.whole) capacity c.requires.capacity
