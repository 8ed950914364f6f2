-- It withdraws, if it is parked.
use Rattle.std.proofs.Common.{Ok, Err, ◌∙◌}
use Rattle.flume.proofs.TracedSendPollLemmas.{takes_back, not_unsent}
use Rattle.flume.proofs.polled.traced_send.Shared+T+R+A+Traced+T+A+J.take_back.Goals as goal

pub returns-in-Done-Ok : goal.returns-in-Done-Ok
returns-in-Done-Ok g c = record {
  back = λ start message can. takes_back (Ok tt) (rw (← c.in-Parked.ensures.value) at can)
      (rw c.in-Done-Ok.field-0-is at c.in-Done-Ok.ensures.did);
  unsent = λ message is. absurd (not_unsent (c.in-Parked.ensures.value ∙ is));
}

pub returns-in-Done-Err : goal.returns-in-Done-Err
returns-in-Done-Err g c = record {
  back = λ start message can. takes_back (Err c.in-Done-Err.error) (rw (← c.in-Parked.ensures.value) at can)
      (rw c.in-Done-Err.field-0-is at c.in-Done-Err.ensures.did);
  unsent = λ message is. absurd (not_unsent (c.in-Parked.ensures.value ∙ is));
}
