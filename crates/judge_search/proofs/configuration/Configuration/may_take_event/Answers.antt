-- The event can't come if it begins a call of a thread that has one open, or returns what the open call may not.
use Rattle.std.proofs.Common.{◌≡◌, Bool, true, false, not, Option, Some, None, refl, sym, ap, ◌∙◌}
use Rattle.std.specs.Option.{is_some}
use Rattle.judge_search.specs.declared.configuration.OpenCall.{OpenCall}
use Rattle.judge_search.specs.Configurations.{State, call_by}
use Rattle.judge_search.proofs.EventsAtLemmas.{event_read}
use Rattle.judge_search.proofs.WaitLemmas.{waits_begins, waits_none, waits_call}
use Rattle.judge_search.proofs.configuration.Configuration.may_take_event.Goals as goal

some_call : (call : Option OpenCall) (none : Bool) → is_some call ≡ not none → none ≡ false → (one : OpenCall) × (call ≡ Some one)
some_call None none is some = let gone : false ≡ not false = (is ∙ ap not some) in absurd (let x : ⊥ = cc in x)
some_call (Some one) none is some = (one, refl)

pub returns-in-Begins : goal.returns-in-Begins
returns-in-Begins g c = record {
  waits = λ no.
      let there = some_call c.call_of.result c.is_none.result c.is_none.ensures no in
      waits_begins g.T.PartialEq.eq c.args.events.now c.args.place c.args.self.now c.in-Begins.thread c.in-Begins.call there.0
      (event_read c.args.events.now c.args.place c.index-events-place.result c.requires c.index-events-place.is ∙ ap Some c.in-Begins.is)
      (sym (c.call_of.ensures.own ∙ ap (call_by c.args.events.now c.in-Begins.thread) (c.as_slice.ensures.value
      ∙ ap (λ (s : State). s.calls) c.self.view_is)) ∙ there.1);
}

pub returns-in-Some : goal.returns-in-Some
returns-in-Some g c = record {
  waits = λ no. waits_call g.T.PartialEq.eq c.args.events.now c.args.place c.args.self.now c.in-Returns.thread c.in-Returns.answer
      c.in-Some.one
      (event_read c.args.events.now c.args.place c.index-events-place.result c.requires c.index-events-place.is ∙ ap Some c.in-Returns.is)
      (sym (c.in-Some.ensures.own ∙ ap (call_by c.args.events.now c.in-Returns.thread) (c.as_slice-in-Returns.ensures.value
      ∙ ap (λ (s : State). s.calls) c.self.view_is)))
      (sym c.may_return.ensures.may ∙ no);
}

pub returns-in-None : goal.returns-in-None
returns-in-None g c = record {
  waits = λ no. waits_none g.T.PartialEq.eq c.args.events.now c.args.place c.args.self.now c.in-Returns.thread c.in-Returns.answer
      (event_read c.args.events.now c.args.place c.index-events-place.result c.requires c.index-events-place.is ∙ ap Some c.in-Returns.is)
      (sym (c.in-None.ensures.own ∙ ap (call_by c.args.events.now c.in-Returns.thread) (c.as_slice-in-Returns.ensures.value
      ∙ ap (λ (s : State). s.calls) c.self.view_is)));
}
