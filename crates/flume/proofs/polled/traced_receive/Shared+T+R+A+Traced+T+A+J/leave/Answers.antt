-- It withdraws, if it is parked.
use Rattle.std.proofs.Common.{sym, ◌∙◌}
use Rattle.flume.proofs.TracedReceivePollLemmas.{leaves, was_parked, left_calls, left_message}
use Rattle.flume.proofs.polled.traced_receive.Shared+T+R+A+Traced+T+A+J.leave.Goals as goal

pub returns : goal.returns
returns g c =
    let parked = sym c.in_ok-leaves.was ∙ c.end.ensures.leaves in
    record {
      left = λ start can. rw c.ok.ensures.value (left_calls c.in-Done.result
          (leaves c.args.call.now.call c.in_ok-leaves.leaves c.in-Done.result parked c.in-Done.ensures.did can));
      got = λ start can message is. left_message c.in-Done.result
          (leaves c.args.call.now.call c.in_ok-leaves.leaves c.in-Done.result parked c.in-Done.ensures.did can)
          (sym c.ok.ensures.value ∙ is);
      unparked = λ none. was_parked c.args.call.now.call parked none;
    }
