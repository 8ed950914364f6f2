use Rattle.std.proofs.Common.{refl}
use Rattle.flume_laws.proofs.TakeInLemmas.{split_off, only_received, take_in_sender, exchanged}
use Rattle.flume_laws.proofs.ReplyLemmas.{served}
use Rattle.example_exchange.specs.Asking.{question_of}
use Rattle.example_exchange.proofs.asking.ask_over.Goals as goal

pub returns : goal.returns
returns g c =
    let ran = c.in_ok-one.ensures in
    let first = c.split_off.ensures in
    let second = c.split_off-2.ensures in
    let server = only_received (split_off (split_off c.in_ok-tx.ensures.party first.rest) second.rest)
    ran.answered.got in
    let all = take_in_sender (take_in_sender server first.new ran.first.0 c.merge.ensures.merged)
    second.new ran.second.0 c.merge-2.ensures.merged in
    let replies = served question_of (λ b n. refl) _ _ ran.answered
    (exchanged all c.in-Some-eq0.ensures.whole c.in-Some-eq0.field-0-test) in
    record { first = (replies.0, ran.first.1); second = (replies.1, ran.second.1) }
