-- A run led to the channel that the turn was made of.
use Rattle.flume.proofs.shared.Shared.call_unowned.Goals as goal

pub returns-clause-made : goal.returns-clause-made
returns-clause-made g c =
    let reachable = c.make_unowned.ensures.reachable in
    record {
      opening = reachable.0;
      log = reachable.1;
      old = _;
      new = _;
      represents = reachable.2;
      turn = c.make_unowned.ensures.call.turn;
    }
