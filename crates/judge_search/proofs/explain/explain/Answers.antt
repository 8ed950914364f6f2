-- If nothing comes of the start, nothing explains the events; what the search reaches is explained.
use Rattle.std.proofs.Common.{◌≡◌, refl, sym, subst}
use Rattle.flume_model.specs.Log.{opens}
use Rattle.judge_search.specs.Search.{AreExplained}
use Rattle.judge_search.proofs.explain.explain.Goals as goal

pub returns-in-Nothing-clause-unexplained : goal.returns-in-Nothing-clause-unexplained
returns-in-Nothing-clause-unexplained g c = λ is.
    c.in-Nothing.ensures.nothing c.in-Nothing.field-0 refl

pub explained_by-requires : goal.explained_by-requires
explained_by-requires g c =
    c.in-Path.ensures.path c.in-Path.path refl

pub returns-in-GaveUp-clause-gave_up : goal.returns-in-GaveUp-clause-gave_up
returns-in-GaveUp-clause-gave_up g c = λ count is.
    let same : count ≡ c.in-GaveUp.place = cc in
    subst (AreExplained g.T.PartialEq.eq (opens c.args.capacity 1) c.args.events.now) (sym same)
    (c.in-GaveUp.ensures.gave_up c.in-GaveUp.place refl)
