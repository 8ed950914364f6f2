-- The items were found to tell of an explanation of the events.
use Rattle.std.proofs.Common.{◌≡◌, length, refl, sym, ap, ◌∙◌, subst}
use Rattle.flume_model.specs.Log.{opens}
use Rattle.judge_calls.specs.Explanations.{events_in, IsExplained}
use Rattle.judge_calls.specs.Descriptions.{DescribeExplanation}
use Rattle.judge_search.specs.Search.{AreExplained}
use Rattle.judge_search.proofs.BeginningLemmas.{all_of}
use Rattle.judge_search.proofs.explain.explained_by.Goals as goal

pub returns-in-Explains-clause-explains : goal.returns-in-Explains-clause-explains
returns-in-Explains-clause-explains g c = λ items is.
    let same : items ≡ c.in-Ok.items = cc in
    let recorded_answer = (c.in-Explains.ensures.explains (λ e. let none : ⊥ = cc in none)).0 refl in
    subst (λ v. DescribeExplanation g.T.PartialEq.eq (opens c.args.capacity 1) v.items) (sym same)
    (subst (DescribeExplanation g.T.PartialEq.eq (opens c.args.capacity 1)) c.as_slice.ensures.value recorded_answer)

pub returns-in-Explains-clause-explained : goal.returns-in-Explains-clause-explained
returns-in-Explains-clause-explained g c = λ items is.
    subst (IsExplained g.T.PartialEq.eq (opens c.args.capacity 1)) (ap events_in c.as_slice.ensures.value ∙ c.in-Ok.ensures.events)
    (c.in-Explains.ensures.explained refl)

pub returns-in-Err-NoPath-clause-gave_up : goal.returns-in-Err-NoPath-clause-gave_up
returns-in-Err-NoPath-clause-gave_up g c = λ count is.
    let same : count ≡ length c.args.events.now = cc in
    subst (AreExplained g.T.PartialEq.eq (opens c.args.capacity 1) c.args.events.now) (sym same)
    (all_of g.T.PartialEq.eq (opens c.args.capacity 1) c.args.events.now c.requires)

pub returns-in-Breaks-clause-gave_up : goal.returns-in-Breaks-clause-gave_up
returns-in-Breaks-clause-gave_up g c = λ count is.
    let same : count ≡ length c.args.events.now = cc in
    subst (AreExplained g.T.PartialEq.eq (opens c.args.capacity 1) c.args.events.now) (sym same)
    (all_of g.T.PartialEq.eq (opens c.args.capacity 1) c.args.events.now c.requires)
