-- Some run goes on with the steps: one that led to the channel before them.
use Rattle.flume_keeper.proofs.no_trace.NoTraceKeeper.keep.Goals as goal

pub returns-clause-did : goal.returns-clause-did
returns-clause-did g c =
    let made = c.requires.made in
    let reachable = c.requires.reachable in
    record {
      steps = made.made;
      answered = made.answered;
      made = record {
        opening = reachable.0;
        log = reachable.1;
        run = (made.leads reachable.0 reachable.1 reachable.2).run;
      };
    }
