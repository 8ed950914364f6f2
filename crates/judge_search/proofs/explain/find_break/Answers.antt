-- What is explained, and what isn't, comes nearer and nearer.
use Rattle.std.proofs.Common.{◌≡◌, refl, sym, subst, take, arith}
use Rattle.flume_model.specs.Log.{opens}
use Rattle.judge_calls.specs.Explanations.{IsExplained}
use Rattle.judge_search.specs.Search.{UnexplainedAfter}
use Rattle.judge_search.proofs.BeginningLemmas.{none_explained, some_events, all_not_on, unexplained_after}
use Rattle.judge_search.proofs.explain.find_break.Goals as goal
use Rattle.judge_search.proofs.explain.find_break.Goals.{in-Path, in-Nothing}

pub loop-low-init : goal.loop-low-init
loop-low-init g c = record {
  below = some_events g.T.PartialEq.eq (opens c.args.capacity 1) c.args.events.now c.requires;
  high_within = omega arith;
  explained = none_explained g.T.PartialEq.eq (opens c.args.capacity 1);
  not_with_next = all_not_on g.T.PartialEq.eq (opens c.args.capacity 1) c.args.events.now c.requires;
}

pub loop-low-preserved : goal.loop-low-preserved
loop-low-preserved g c = elim c.match-find_choices.branch [
  | in-Path w ↦ record {
    below = omega arith;
    high_within = omega arith;
    explained = subst (λ n. IsExplained g.T.PartialEq.eq (opens c.args.capacity 1) (take n c.args.events.now)) (sym w.low-is)
        (w.in-Path.ensures.path w.in-Path.field-0 refl);
    not_with_next = subst (λ n. IsExplained g.T.PartialEq.eq (opens c.args.capacity 1) (take n c.args.events.now) → ⊥) (sym w.high-is)
        c.loop-low.invariant.not_with_next;
  }
  | in-Nothing w ↦ record {
    below = omega arith;
    high_within = omega arith;
    explained = subst (λ n. IsExplained g.T.PartialEq.eq (opens c.args.capacity 1) (take n c.args.events.now)) (sym w.low-is)
        c.loop-low.invariant.explained;
    not_with_next = subst (λ n. IsExplained g.T.PartialEq.eq (opens c.args.capacity 1) (take n c.args.events.now) → ⊥) (sym w.high-is)
        (w.in-Nothing.ensures.nothing w.in-Nothing.field-0 refl);
  }
]

pub loop-low-smaller : goal.loop-low-smaller
loop-low-smaller g c = elim c.match-find_choices.branch [ in-Path w ↦ omega arith | in-Nothing w ↦ omega arith ]

pub returns-in-GaveUp-clause-unexplained : goal.returns-in-GaveUp-clause-unexplained
returns-in-GaveUp-clause-unexplained g c = λ count is.
    let same : count ≡ c.max.result = cc in
    let current = c.in-GaveUp.ensures.gave_up c.in-GaveUp.place refl in
    subst (UnexplainedAfter g.T.PartialEq.eq (opens c.args.capacity 1) c.args.events.now) (sym same)
    (subst (UnexplainedAfter g.T.PartialEq.eq (opens c.args.capacity 1) c.args.events.now) (sym c.max.ensures)
    (unexplained_after g.T.PartialEq.eq (opens c.args.capacity 1) c.args.events.now c.loop-low.low c.clamp-count.result c.in-GaveUp.place
    (omega arith) (omega arith)
    c.loop-low.invariant.explained current c.requires))
