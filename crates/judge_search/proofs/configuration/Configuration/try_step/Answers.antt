-- A step leads to one configuration, or is spent: it leads to the same one, or nowhere.
use Rattle.std.proofs.Common.{◌≡◌, refl, sym, ap, ◌∙◌, subst, drop, arith, Contains}
use Rattle.judge_search.specs.Configurations.{State}
use Rattle.judge_search.specs.declared.choice.Choice.TheVariants.{MakeStep}
use Rattle.judge_search.specs.Dead.{LeadsOnly}
use Rattle.judge_search.proofs.DeadReceiveLemmas.{step_only, spent_same, spent_nowhere}
use Rattle.judge_search.proofs.configuration.Configuration.try_step.Goals as goal

pub returns-in-Leads-clause-leads : goal.returns-in-Leads-clause-leads
returns-in-Leads-clause-leads g c = λ new at e.
    let a : new ≡ c.in-Leads.new = cc in
    let b : at ≡ c.args.place = cc in
    subst (λ n. LeadsOnly g.T.PartialEq.eq c.args.events.now c.args.place c.args.self.now
    (MakeStep c.args.call c.args.other c.args.refused) n new) (sym b)
    (subst (LeadsOnly g.T.PartialEq.eq c.args.events.now c.args.place c.args.self.now
    (MakeStep c.args.call c.args.other c.args.refused) c.args.place) (sym a)
    (step_only g.T.PartialEq.eq c.args.events.now c.args.place c.args.self.now c.in-Leads.new c.args.call c.args.other c.args.refused
    (λ t has there. c.in-Leads.ensures.leads c.in-Leads.new refl (drop c.args.place c.args.events.now) t has there
    (c.recorded-recorded.ensures.first t there))))

pub returns-in-Same-clause-spent : goal.returns-in-Same-clause-spent
returns-in-Same-clause-spent g c = λ e.
    spent_same g.T.PartialEq.eq c.args.events.now c.args.place c.args.self.now c.args.call c.args.other c.args.refused
    (λ t has there. c.in-Same.ensures.same refl (drop c.args.place c.args.events.now) t has there
    (c.recorded-recorded.ensures.first t there))

pub returns-in-Nowhere-clause-spent : goal.returns-in-Nowhere-clause-spent
returns-in-Nowhere-clause-spent g c = λ e.
    spent_nowhere g.T.PartialEq.eq c.args.events.now c.args.place c.args.self.now c.args.call c.args.other c.args.refused
    (λ t has there. c.in-Nowhere.ensures.nowhere refl (drop c.args.place c.args.events.now) t has there
    (c.recorded-recorded.ensures.first t there))

pub returns-then-not-has_call-clause-spent : goal.returns-then-not-has_call-clause-spent
returns-then-not-has_call-clause-spent g c = λ e o past item items agrees short on of.
    let calls = c.as_slice.ensures.value ∙ ap (λ (s : State). s.calls) c.self.view_is in
    absurd (c.has_call.ensures.absent c.if-not-has_call.true (subst (λ l. Contains l c.args.call) (sym calls) of.1))
