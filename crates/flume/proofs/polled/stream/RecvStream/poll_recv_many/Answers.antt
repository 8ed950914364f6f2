-- What came, by what the receive's own poll of many says.
use Rattle.std.proofs.Common.{rules, ◌≡◌, ◌+◌, ◌-◌}
use Rattle.flume.proofs.ReceivePollLemmas.{many_came}
use Rattle.flume.proofs.polled.stream.RecvStream.poll_recv_many.Goals as goal

pub returns-clause-appended : goal.returns-clause-appended
returns-clause-appended g c =
    let items : c.replace-list.result.items ≡ c.args.buffer.now.items = search rules in
    let most : (c.args.most - 1) + 1 ≡ c.args.most = search rules in
    many_came _ _ _ c.in-Some.answer most items c.in-Some.is c.poll_receives-list.ensures.polled
