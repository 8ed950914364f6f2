-- Each kind of choice leads, or is spent, as its own function says.
use Rattle.std.proofs.Common.{sym, subst}
use Rattle.judge_search.specs.declared.choice.Choice.{Choice}
use Rattle.judge_search.specs.Dead.{IsSpent, LeadsOnly}
use Rattle.judge_search.proofs.configuration.Configuration.try_choice.Goals as goal

pub returns-in-TakeEvent-clause-leads : goal.returns-in-TakeEvent-clause-leads
returns-in-TakeEvent-clause-leads g c = λ new at is.
    subst (λ (x : Choice). LeadsOnly g.T.PartialEq.eq c.args.events.now c.args.place c.args.self.now x at new) (sym c.in-TakeEvent.is)
    (c.try_event.ensures.leads new at is)

pub returns-in-TakeEvent-clause-spent : goal.returns-in-TakeEvent-clause-spent
returns-in-TakeEvent-clause-spent g c = λ is.
    subst (IsSpent g.T.PartialEq.eq c.args.events.now c.args.place c.args.self.now) (sym c.in-TakeEvent.is) (c.try_event.ensures.spent is)

pub returns-in-MakeStep-clause-leads : goal.returns-in-MakeStep-clause-leads
returns-in-MakeStep-clause-leads g c = λ new at is.
    subst (λ (x : Choice). LeadsOnly g.T.PartialEq.eq c.args.events.now c.args.place c.args.self.now x at new) (sym c.in-MakeStep.is)
    (c.try_step.ensures.leads new at is)

pub returns-in-MakeStep-clause-spent : goal.returns-in-MakeStep-clause-spent
returns-in-MakeStep-clause-spent g c = λ is.
    subst (IsSpent g.T.PartialEq.eq c.args.events.now c.args.place c.args.self.now) (sym c.in-MakeStep.is) (c.try_step.ensures.spent is)
