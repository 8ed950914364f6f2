-- If the send waits or fails the list is as it was; else the poll goes on to the list.
use Rattle.std.proofs.Common.{◌≡◌, ◌≢◌, Some, Ok, rules}
use Rattle.flume.proofs.ManySendLemmas.{sent_poll_leaves, unsent_poll_leaves}
use Rattle.flume.specs.ManySendPolls.{SendIsPolled}
use Rattle.flume.proofs.ManySendPollLemmas.{polls_go_on}
use Rattle.flume.proofs.SendPollLemmas.{finished_is_ok, error_holds_message, poll_finishes}
use Rattle.flume.proofs.polled.many.Shared+T+R+A.poll_sends.Goals as goal

pub returns-then-not-is_sent-clause-leaves : goal.returns-then-not-is_sent-clause-leaves
returns-then-not-is_sent-clause-leaves g c =
    let polled = c.poll_locked-answer.ensures.polled.polled in
    let unfit : c.poll_locked-answer.result ≢ Some (Ok tt) =
    λ sent. (let yes = c.is_sent.ensures.sent.1 sent in let no : ⊥ = cc in no) in
    unsent_poll_leaves _ _ _ unfit (finished_is_ok polled) (error_holds_message polled)

pub returns-clause-leaves : goal.returns-clause-leaves
returns-clause-leaves g c = sent_poll_leaves _ _ _ _ c.poll_list.ensures.leaves

pub returns-then-not-is_sent-clause-made : goal.returns-then-not-is_sent-clause-made
returns-then-not-is_sent-clause-made g c = SendIsPolled c.poll_locked-answer.ensures.polled

pub returns-clause-made : goal.returns-clause-made
returns-clause-made g c =
    let polled = c.poll_locked-answer.ensures.polled in
    let sent : c.poll_locked-answer.result ≡ Some (Ok tt) = search rules in
    polls_go_on (SendIsPolled polled) sent (poll_finishes polled.polled (Ok tt) sent) c.poll_list.ensures.made
