-- The event leads to one configuration, or can't come.
use Rattle.std.proofs.Common.{◌≡◌, ◌+◌, sym, subst, drop}
use Rattle.judge_search.specs.Agreement.{Agrees}
use Rattle.judge_search.specs.declared.choice.Choice.TheVariants.{TakeEvent}
use Rattle.judge_search.specs.Dead.{LeadsOnly}
use Rattle.judge_search.proofs.DeadReceiveLemmas.{event_only, spent_wait}
use Rattle.judge_search.proofs.configuration.Configuration.try_event.Goals as goal

pub returns-then-take_event-clause-leads : goal.returns-then-take_event-clause-leads
returns-then-take_event-clause-leads g c = λ new at e.
    let a : new ≡ c.take_event.new.self = cc in
    let b : at ≡ c.args.place + 1 = cc in
    subst (λ n. LeadsOnly g.T.PartialEq.eq c.args.events.now c.args.place c.args.self.now TakeEvent n new) (sym b)
    (subst (LeadsOnly g.T.PartialEq.eq c.args.events.now c.args.place c.args.self.now TakeEvent (c.args.place + 1)) (sym a)
    (event_only g.T.PartialEq.eq c.args.events.now c.args.place c.args.self.now c.take_event.new.self
    (λ o past event agrees there fits.
    c.take_event.ensures.leads c.if-take_event.true o past event
    (subst (Agrees g.T.PartialEq.eq c.args.events.now o past (drop c.args.place c.args.events.now)) (sym c.in-Some.ensures.same) agrees)
    there fits)))

pub returns-then-not-may_take_event-clause-spent : goal.returns-then-not-may_take_event-clause-spent
returns-then-not-may_take_event-clause-spent g c = λ e.
    spent_wait g.T.PartialEq.eq c.args.events.now c.args.place c.args.self.now (c.may_take_event.ensures.waits c.if-not-may_take_event.true)
