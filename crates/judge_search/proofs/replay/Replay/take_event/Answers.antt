-- The event joins the items.
use Rattle.std.proofs.Common.{◌∙◌, ap, ◌++◌, ◌∷◌, []}
use Rattle.judge_calls.specs.declared.event.Item.TheVariants.{Happens}
use Rattle.judge_search.proofs.TakeLemmas.{taken_event}
use Rattle.judge_search.proofs.replay.Replay.take_event.Goals as goal

pub returns : goal.returns
returns g c = record {
  taken = λ taken. taken_event c.args.events.now c.args.self.now.place c.index-events-self.result c.args.self.now.items.items
      c.push.new.self.items
      c.if-self-events.false c.index-events-self.is
      (c.in_ok-push.ensures.items ∙ ap (λ e. c.args.self.now.items.items ++ Happens e ∷ []) c.in_ok-event.ensures.same) taken;
}
