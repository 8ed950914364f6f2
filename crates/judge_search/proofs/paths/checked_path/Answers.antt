-- No events are explained in any case.
use Rattle.std.proofs.Common.{◌≡◌}
use Rattle.flume_model.specs.Log.{opens}
use Rattle.judge_search.proofs.BeginningLemmas.{none_of}
use Rattle.judge_search.proofs.paths.checked_path.Goals as goal

pub returns-in-Ok-false-clause-gave_up : goal.returns-in-Ok-false-clause-gave_up
returns-in-Ok-false-clause-gave_up g c = λ furthest is.
    let none : furthest ≡ 0 = cc in none_of g.T.PartialEq.eq (opens c.args.capacity 1) c.args.events.now furthest none
