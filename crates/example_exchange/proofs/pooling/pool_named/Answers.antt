use Rattle.flume_laws.proofs.TakeInLemmas.{split_off, only_received, take_in_sender}
use Rattle.flume_laws.proofs.TakeInLemmas.{take_in_receiver, exchanged}
use Rattle.flume_laws.proofs.ForwardLemmas.{pooled}
use Rattle.example_exchange.specs.Halving.{half}
use Rattle.example_exchange.proofs.pooling.pool_named.Goals as goal

pub returns : goal.returns
returns g c =
    let sender = c.split_off-sender.ensures in
    let reader = c.split_off.ensures in
    let writer = c.split_off-2.ensures in
    let other = c.split_off-3.ensures in
    let ran = c.in_ok-sender.ensures in
    let second = only_received (split_off (split_off c.in_ok-tx.ensures.party sender.rest)
    reader.rest) ran.second.got in
    let jobs = take_in_receiver (take_in_sender second sender.new ran.sent c.merge.ensures.merged)
    reader.new ran.first.got c.merge-2.ensures.merged in
    let collector = only_received (split_off (split_off c.in_ok-to.ensures.party writer.rest)
    other.rest) c.in_ok-collected.ensures.got in
    let results = take_in_sender (take_in_sender collector other.new ran.second.sent
    c.merge-3.ensures.merged) writer.new ran.first.sent c.merge-4.ensures.merged in
    record {
      halved = pooled half
          (exchanged jobs c.in-Some-eq0.ensures.whole c.in-Some-eq0.field-0-test)
          (exchanged results c.in-Some-eq0-settle.ensures.whole
          c.in-Some-eq0-settle.field-0-test);
    }
