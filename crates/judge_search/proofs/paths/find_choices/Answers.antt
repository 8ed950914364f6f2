-- If a beginning of the events is refuted, so are all of them.
use Rattle.std.proofs.Common.{◌+◌, ◌≡◌, subst, take, IfSome}
use Rattle.flume_model.specs.Log.{opens}
use Rattle.judge_calls.specs.Explanations.{IsExplained}
use Rattle.judge_calls.proofs.BeginningLemmas.{beginning_explained}
use Rattle.judge_search.proofs.paths.find_choices.Goals as goal

pub returns-in-Ok-Some-clause-nothing : goal.returns-in-Ok-Some-clause-nothing
returns-in-Ok-Some-clause-nothing g c = λ furthest is explained.
    subst (λ found. IfSome found (λ place. IsExplained g.T.PartialEq.eq (opens c.args.capacity 1) (take (place + 1) c.args.events.now) → ⊥))
    c.in-Ok-Some.field-0-is (c.in-Ok-Some.ensures.refuted (opens c.args.capacity 1))
    (beginning_explained g.T.PartialEq.eq (opens c.args.capacity 1) c.args.events.now (c.in-Ok-Some.place + 1) explained)
