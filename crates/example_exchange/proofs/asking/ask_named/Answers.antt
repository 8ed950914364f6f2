use Rattle.flume_laws.proofs.TakeInLemmas.{one_to_one}
use Rattle.example_exchange.proofs.asking.ask_named.Goals as goal

pub returns : goal.returns
returns g c =
    let one = c.in_ok-to_first.ensures in
    let other = c.in_ok-to_second.ensures in
    let ran = c.in_ok-one.ensures in
    record {
      halved = (
        one_to_one one.reader ran.first.1 one.writer ran.first.0 c.merge.ensures.merged
            c.in-Some-eq0.ensures.whole c.in-Some-eq0.field-0-test,
        one_to_one other.reader ran.second.1 other.writer ran.second.0 c.merge-2.ensures.merged
            c.in-Some-eq0-settle.ensures.whole c.in-Some-eq0-settle.field-0-test,
      );
    }
