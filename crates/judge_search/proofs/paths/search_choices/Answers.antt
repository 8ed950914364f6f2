-- If nothing comes of the start, nothing explains the events.
use Rattle.std.proofs.Common.{refl, subst}
use Rattle.judge_search.specs.Dead.{IsDeadEnd}
use Rattle.judge_search.proofs.StartLemmas.{unexplained}
use Rattle.judge_search.proofs.paths.search_choices.Goals as goal

pub returns-in-Nothing-clause-nothing : goal.returns-in-Nothing-clause-nothing
returns-in-Nothing-clause-nothing g c = λ furthest is.
    unexplained g.T.PartialEq.eq c.args.events.now c.args.capacity 1
    (subst (IsDeadEnd g.T.PartialEq.eq c.args.events.now 0) c.new-start.ensures.start (c.in-Nothing.ensures.nothing c.in-Nothing.place refl))
