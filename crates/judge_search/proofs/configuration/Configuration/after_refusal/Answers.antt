-- A refused move leads as its stage without memory says.
use Rattle.std.proofs.Common.{◌≡◌, sym, ◌∙◌, ap, rules, subst, true}
use denote.Enum.Bare.{same_true}
use Rattle.judge_search.specs.contracts.configuration.Progress.{the_type}
use Rattle.judge_search.specs.declared.configuration.Progress.{Progress}
use Rattle.judge_search.specs.Configurations.{State, with_progress}
use Rattle.judge_search.specs.Progresses.{progress_of}
use Rattle.judge_search.specs.Leads.{CallLeadsTo}
use Rattle.std.specs.Option.{option_copied}
use Rattle.judge_search.proofs.RefusalLeadLemmas.{never_refused, refusal_leads, refusal_same, refusal_wrong}
use Rattle.judge_search.proofs.configuration.Configuration.after_refusal.Goals as goal

pub returns-then-not-may_refuse-clause-nowhere : goal.returns-then-not-may_refuse-clause-nowhere
returns-then-not-may_refuse-clause-nowhere g c = λ events e.
    never_refused g.T.PartialEq.eq events c.args.self.now (option_copied c.args.recorded) c.args.one c.args.call.now c.args.mv
    (sym c.may_refuse.ensures.may ∙ c.if-not-may_refuse.true)

pub returns-then-is_wrong-clause-nowhere : goal.returns-then-is_wrong-clause-nowhere
returns-then-is_wrong-clause-nowhere g c = λ events e.
    refusal_wrong g.T.PartialEq.eq events c.args.self.now (option_copied c.args.recorded) c.args.one c.args.call.now c.args.mv
    c.stage.result
    c.stage_after-stage.result c.stage.ensures.stage c.stage_after-stage.ensures.stage (sym c.is_wrong.ensures.wrong ∙ c.if-is_wrong.true)

pub returns-then-eq-clause-same : goal.returns-then-eq-clause-same
returns-then-eq-clause-same g c = λ events e.
    refusal_same g.T.PartialEq.eq events c.args.self.now (option_copied c.args.recorded) c.args.one c.args.call.now c.args.mv c.stage.result
    c.stage_after-stage.result c.stage.ensures.stage c.stage_after-stage.ensures.stage (sym c.is_wrong.ensures.wrong ∙ c.if-is_wrong.false)
    (sym c.progress_of-progress.ensures.progress
    ∙ same_true the_type (search rules) c.progress_of-progress.result c.args.one.progress (sym c.eq.ensures ∙ c.if-eq.true))

pub returns-in-Some-clause-leads : goal.returns-in-Some-clause-leads
returns-in-Some-clause-leads g c = λ events new e.
    let same : c.in-Some.new ≡ new = cc in
    let so : with_progress c.args.one.place (progress_of c.stage_after-stage.result) c.args.self.now ≡ new =
    ap (λ (p : Progress). with_progress c.args.one.place p c.args.self.now) (sym c.progress_of-progress.ensures.progress)
    ∙ sym c.in-Some.ensures.calls_with_progress ∙ same in
    subst (λ (d : State). CallLeadsTo g.T.PartialEq.eq events c.args.self.now (option_copied c.args.recorded) c.args.one c.args.call.now
    c.args.mv
    true d) so
    (refusal_leads g.T.PartialEq.eq events c.args.self.now (option_copied c.args.recorded) c.args.one c.args.call.now c.args.mv
    c.stage.result
    c.stage_after-stage.result c.stage.ensures.stage c.stage_after-stage.ensures.stage (sym c.is_wrong.ensures.wrong ∙ c.if-is_wrong.false))
