-- The items that the choices made explain their events, which are these.
use Rattle.std.proofs.Common.{refl, ap, ◌∙◌, subst}
use Rattle.flume_model.specs.Log.{opens}
use Rattle.judge_calls.specs.Explanations.{events_in, IsExplained}
use Rattle.judge_search.proofs.paths.are_explained_by.Goals as goal

pub returns-in-Explains : goal.returns-in-Explains
returns-in-Explains g c = record {
  explained = λ yes. subst (IsExplained g.T.PartialEq.eq (opens c.args.capacity 1))
      (ap events_in c.as_slice.ensures.value ∙ c.in-Ok.ensures.events) (c.in-Explains.ensures.explained refl);
}
