-- By the cases of steps and replies, since a ticket has one blocked message.
use Rattle.flume_model.specs.Channel.{channel}
use Rattle.flume_history.proofs.OneBlockedLemmas.{one_blocked}
use Rattle.flume_history.proofs.OneReplyLemmas.{one_reply}
use Rattle.flume_history.proofs.laws.replies_are_determined.Goals as goal

pub returns : goal.returns
returns g c = record {
  same = λ o log step reply other run.
      one_reply (channel o log) (one_blocked o log run) step reply other;
}
