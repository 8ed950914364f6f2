-- The step was made, of a channel that a run led to.
use Rattle.flume.proofs.shared.Shared.set_capacity.Goals as goal

pub returns-clause-made : goal.returns-clause-made
returns-clause-made g c =
    let made = c.make-answer.ensures in
    let reachable = made.reachable in
    let turn = made.call.turn.0 in
    record {
      opening = reachable.0;
      log = reachable.1;
      reply = turn.reply;
      run = (turn.stepped.extends reachable.0 reachable.1 reachable.2).run;
      answered = turn.answered;
    }
