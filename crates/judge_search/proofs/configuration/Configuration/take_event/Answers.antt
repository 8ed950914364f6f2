-- Where an event leads that begins a call, and one that returns one; no other may come.
use Rattle.std.proofs.Common.{Some, ap, ◌∙◌, sym, subst}
use Rattle.judge_search.specs.Dead.{EventLeads}
use Rattle.judge_search.proofs.EventsAtLemmas.{event_read}
use Rattle.judge_search.proofs.HappeningLemmas.{begins_leads, returns_leads}
use Rattle.judge_search.proofs.WaitLemmas.{waits_none}
use Rattle.judge_search.specs.Configurations.{State, call_by}
use Rattle.judge_search.proofs.configuration.Configuration.take_event.Goals as goal

pub returns-in-Begins : goal.returns-in-Begins
returns-in-Begins g c = record {
  leads = λ done. subst (EventLeads g.T.PartialEq.eq c.args.events.now c.args.place c.args.self.now) (sym (c.begin_call.ensures.begun done))
      (begins_leads g.T.PartialEq.eq c.args.events.now c.args.place c.args.self.now c.in-Begins.thread c.in-Begins.call
      (event_read c.args.events.now c.args.place c.index-events-place.result c.requires c.index-events-place.is ∙ ap Some c.in-Begins.is));
}

pub returns-in-Some : goal.returns-in-Some
returns-in-Some g c = record {
  leads = λ done. subst (EventLeads g.T.PartialEq.eq c.args.events.now c.args.place c.args.self.now) (sym c.end_call.ensures.ended)
      (returns_leads g.T.PartialEq.eq c.args.events.now c.args.place c.args.self.now c.in-Returns.thread c.in-Returns.answer c.in-Some.one
      (event_read c.args.events.now c.args.place c.index-events-place.result c.requires c.index-events-place.is ∙ ap Some c.in-Returns.is)
      (sym (c.in-Some.ensures.own ∙ ap (call_by c.args.events.now c.in-Returns.thread) (c.as_slice.ensures.value
      ∙ ap (λ (s : State). s.calls) c.self.view_is))));
}

pub returns-in_default : goal.returns-in_default
returns-in_default g c = record {
  leads = λ done o past event agrees there fits. absurd
      (waits_none g.T.PartialEq.eq c.args.events.now c.args.place c.args.self.now c.in-Returns.thread
      c.in-Returns.answer
      (event_read c.args.events.now c.args.place c.index-events-place.result c.requires c.index-events-place.is ∙ ap Some c.in-Returns.is)
      (sym (c.in_default.ensures.own ∙ ap (call_by c.args.events.now c.in-Returns.thread) (c.as_slice.ensures.value
      ∙ ap (λ (s : State). s.calls) c.self.view_is))) o past event agrees there fits);
}
