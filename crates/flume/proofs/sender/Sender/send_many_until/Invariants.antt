use Rattle.std.proofs.Common.{Result, List, length}
use Rattle.flume_core.specs.declared.error.SendTimeoutError.{SendTimeoutError}
use Rattle.flume.specs.ManySendCalls.{IsEndOf}
use Rattle.flume.specs.ManySendSteps.{SendsManyOf}
use Rattle.flume.proofs.sender.Sender.send_many_until.Given as goal

-- what is left are the last of the messages, and a send of those goes on with what was made
abbrev pub invariant-loop-deadline : goal.invariant-loop-deadline
invariant-loop-deadline g l = record {
  last : IsEndOf l.fn.messages.items l.left.items;
  goes_on : (new : g.row.K-Party.Denot) (result : Result (Unit {0}) (SendTimeoutError (List g.row.T.Denot)))
      → SendsManyOf g.K.Keeper.did l.fn.deadline l.me l.left.items new result
      → SendsManyOf g.K.Keeper.did l.fn.deadline l.fn.me l.fn.messages.items new result;
}

abbrev pub decreases-loop-deadline : goal.decreases-loop-deadline
decreases-loop-deadline g l = length l.left.items
