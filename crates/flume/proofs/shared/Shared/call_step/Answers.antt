-- A run led to the channel that the turn was made of.
use Rattle.flume.proofs.shared.Shared.call_step.Goals as goal

pub make_without_bell-requires-clause-one_step : goal.make_without_bell-requires-clause-one_step
make_without_bell-requires-clause-one_step g c = λ new answer does. c.requires.one_step _ new answer does

pub returns-then-no_call_waits-clause-made : goal.returns-then-no_call_waits-clause-made
returns-then-no_call_waits-clause-made g c =
    let reachable = c.make_without_bell.ensures.reachable in
    record {
      opening = reachable.0;
      log = reachable.1;
      old = _;
      new = _;
      represents = reachable.2;
      turn = c.make_without_bell.ensures.does;
    }

pub returns-clause-made : goal.returns-clause-made
returns-clause-made g c =
    let reachable = c.make.ensures.reachable in
    record {
      opening = reachable.0;
      log = reachable.1;
      old = _;
      new = _;
      represents = reachable.2;
      turn = c.make.ensures.call.turn;
    }
