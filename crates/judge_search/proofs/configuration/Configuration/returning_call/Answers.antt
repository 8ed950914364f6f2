-- Only the event may come if it begins a call, or returns one that has its answer, or none that is open.
use Rattle.std.proofs.Common.{Some, refl, sym, ap, ◌∙◌, [], ◌∷◌, arith}
use Rattle.judge_search.specs.declared.choice.Choice.TheVariants.{TakeEvent}
use Rattle.judge_search.specs.Configurations.{State, call_by}
use Rattle.judge_search.proofs.EventsAtLemmas.{event_read}
use Rattle.judge_search.proofs.CoverLemmas.{only_begins, only_returns, none_returns}
use Rattle.judge_search.proofs.configuration.Configuration.returning_call.Goals as goal

pub returns-in-Begins : goal.returns-in-Begins
returns-in-Begins g c = record {
  event_only = only_begins g.T.PartialEq.eq c.args.events.now c.args.place c.args.self.now
      (TakeEvent ∷ []) c.in-Begins.thread c.in-Begins.call
      (event_read c.args.events.now c.args.place c.index-events-place.result c.requires c.index-events-place.is ∙ ap Some c.in-Begins.is)
      (0, omega arith, refl);
}

pub returns-in_default : goal.returns-in_default
returns-in_default g c = record {
  event_only = only_returns g.T.PartialEq.eq c.args.events.now c.args.place c.args.self.now
      (TakeEvent ∷ []) c.in-Returns.thread c.in-Returns.answer c.in-Some.own
      (event_read c.args.events.now c.args.place c.index-events-place.result c.requires c.index-events-place.is ∙ ap Some c.in-Returns.is)
      (sym (c.in-Some.ensures.own ∙ ap (call_by c.args.events.now c.in-Returns.thread) (c.as_slice.ensures.value
      ∙ ap (λ (s : State). s.calls) c.self.view_is)))
      (c.is_done.ensures.done c.if-not-is_done.false) (0, omega arith, refl);
}

pub returns-in_default-2 : goal.returns-in_default-2
returns-in_default-2 g c = record {
  event_only = none_returns g.T.PartialEq.eq c.args.events.now c.args.place c.args.self.now
      (TakeEvent ∷ []) c.in-Returns.thread c.in-Returns.answer
      (event_read c.args.events.now c.args.place c.index-events-place.result c.requires c.index-events-place.is ∙ ap Some c.in-Returns.is)
      (sym (c.in_default.ensures.own ∙ ap (call_by c.args.events.now c.in-Returns.thread) (c.as_slice.ensures.value
      ∙ ap (λ (s : State). s.calls) c.self.view_is)))
      (0, omega arith, refl);
}
