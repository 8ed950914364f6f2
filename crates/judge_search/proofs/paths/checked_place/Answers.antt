-- The events before the place are explained if the items say so; and no events are in any case.
use Rattle.std.proofs.Common.{◌≡◌, subst, sym, arith}
use Rattle.flume_model.specs.Log.{opens}
use Rattle.judge_search.specs.Search.{AreExplained}
use Rattle.judge_search.proofs.BeginningLemmas.{none_of}
use Rattle.judge_search.proofs.paths.checked_place.Goals as goal

pub returns-then-place-events-clause-gave_up : goal.returns-then-place-events-clause-gave_up
returns-then-place-events-clause-gave_up g c = λ furthest is.
    let none : furthest ≡ 0 = cc in none_of g.T.PartialEq.eq (opens c.args.capacity 1) c.args.events.now furthest none

pub returns-in-Ok-true-clause-gave_up : goal.returns-in-Ok-true-clause-gave_up
returns-in-Ok-true-clause-gave_up g c = λ furthest is.
    let same : furthest ≡ c.args.place = cc in
    subst (AreExplained g.T.PartialEq.eq (opens c.args.capacity 1) c.args.events.now) (sym same) (record {
      within = omega (arith, c.if-place-events.false);
      explained = c.in-Ok-true.ensures.explained c.in-Ok-true.field-0-test;
    })

pub returns-in-Ok-false-clause-gave_up : goal.returns-in-Ok-false-clause-gave_up
returns-in-Ok-false-clause-gave_up g c = λ furthest is.
    let none : furthest ≡ 0 = cc in none_of g.T.PartialEq.eq (opens c.args.capacity 1) c.args.events.now furthest none
