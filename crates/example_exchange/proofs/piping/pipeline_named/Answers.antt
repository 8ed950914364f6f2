use Rattle.std.proofs.Common.{◌∙◌, ap}
use Rattle.flume_laws.proofs.TakeInLemmas.{split_off, one_to_one}
use Rattle.example_exchange.specs.Halving.{halves}
use Rattle.example_exchange.proofs.piping.pipeline_named.Goals as goal

pub returns : goal.returns
returns g c =
    let sender = c.split_off-sender.ensures in
    let writer = c.split_off-writer.ensures in
    let ran = c.in_ok-sent.ensures.sent in
    let taken = one_to_one (split_off c.in_ok-tx.ensures.party sender.rest) ran.1.got sender.new
    ran.0 c.merge.ensures.merged c.in-Some-eq0.ensures.whole c.in-Some-eq0.field-0-test in
    let collected = one_to_one (split_off c.in_ok-to.ensures.party writer.rest)
    c.in_ok-collected.ensures.got writer.new ran.1.sent c.merge-2.ensures.merged
    c.in-Some-eq0-settle.ensures.whole c.in-Some-eq0-settle.field-0-test in
    record { halved = collected ∙ ap halves taken }
