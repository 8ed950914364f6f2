-- A move leads as its reply by places says.
use Rattle.std.proofs.Common.{◌≡◌, sym, ◌∙◌, ap, rules, subst, false, refl, List}
use denote.Enum.Bare.{same_true}
use Rattle.judge_search.specs.contracts.configuration.Progress.{the_type}
use Rattle.judge_search.specs.declared.configuration.OpenCall.{OpenCall}
use Rattle.judge_search.specs.declared.configuration.Progress.{Progress}
use Rattle.judge_search.specs.Configurations.{State, calls_with_progress}
use Rattle.judge_search.specs.Leads.{CallLeadsTo}
use Rattle.judge_search.specs.Mirrors.{Corresponds}
use Rattle.judge_search.specs.declared.place_reply.PlaceReply.{PlaceReply}
use Rattle.std.specs.Option.{option_copied}
use Rattle.judge_search.specs.Outcomes.{outcome}
use Rattle.judge_search.specs.Progresses.{progress_of}
use Rattle.judge_search.proofs.MoveLeadLemmas.{leads, leads_same, leads_wrong, left_with}
use Rattle.judge_search.proofs.configuration.Configuration.after_move.Goals as goal

pub returns-then-is_wrong-clause-nowhere : goal.returns-then-is_wrong-clause-nowhere
returns-then-is_wrong-clause-nowhere g c = λ e.
    leads_wrong g.T.PartialEq.eq c.args.events.now c.args.self.now (option_copied c.args.recorded) c.args.one c.args.call.now c.args.mv
    c.in-Some-make.reply_by_place c.make.new.self
    (c.in-Some-make.ensures.outcome ∙ ap (outcome c.args.mv c.args.one.place) c.in-Some.ensures.same) 0 c.in-Some-reply_to.reply
    c.in-Some-reply_to.ensures.corresponds c.stage.result c.stage_after-stage.result c.stage.ensures.stage c.stage_after-stage.ensures.stage
    (sym c.is_wrong.ensures.wrong ∙ c.if-is_wrong.true)

pub returns-then-is_same-clause-same : goal.returns-then-is_same-clause-same
returns-then-is_same-clause-same g c = λ e.
    leads_same g.T.PartialEq.eq c.args.events.now c.args.self.now (option_copied c.args.recorded) c.args.one c.args.call.now c.args.mv
    c.in-Some-make.reply_by_place c.make.new.self
    (c.in-Some-make.ensures.outcome ∙ ap (outcome c.args.mv c.args.one.place) c.in-Some.ensures.same) 0 c.in-Some-reply_to.reply
    c.in-Some-reply_to.ensures.corresponds c.stage.result c.stage_after-stage.result c.stage.ensures.stage c.stage_after-stage.ensures.stage
    (sym c.is_wrong.ensures.wrong ∙ c.if-is_wrong.false)
    (sym c.progress_of-progress.ensures.progress
    ∙ same_true the_type (search rules) c.progress_of-progress.result c.args.one.progress (sym c.eq.ensures ∙ c.if-eq.true))
    (c.if-is_same.ensures.same refl)

pub returns-in-Some-calls_with-clause-leads : goal.returns-in-Some-calls_with-clause-leads
returns-in-Some-calls_with-clause-leads g c = λ new e.
    let same : c.with_calls.result ≡ new = cc in
    let calls : c.in-Some-calls_with.calls.items ≡ calls_with_progress c.args.one.place
    (progress_of c.stage_after-stage.result) c.args.self.now.calls =
    c.in-Some-calls_with.ensures.calls_with_progress
    ∙ ap (λ (p : Progress). calls_with_progress c.args.one.place p c.args.self.now.calls) c.progress_of-progress.ensures.progress in
    let so : left_with c.args.self.now c.args.one (progress_of c.stage_after-stage.result) c.make.new.self ≡ new =
    ap (λ (l : List OpenCall). let d : State = record c.make.new.self { calls = l } in d) (sym calls) ∙ sym c.with_calls.ensures.calls
    ∙ same in
    subst (λ (d : State). CallLeadsTo g.T.PartialEq.eq c.args.events.now c.args.self.now (option_copied c.args.recorded) c.args.one
    c.args.call.now c.args.mv false d) so
    (leads g.T.PartialEq.eq c.args.events.now c.args.self.now (option_copied c.args.recorded) c.args.one c.args.call.now c.args.mv
    c.in-Some-make.reply_by_place c.make.new.self
    (c.in-Some-make.ensures.outcome ∙ ap (outcome c.args.mv c.args.one.place) c.in-Some.ensures.same) 0 c.in-Some-reply_to.reply
    c.in-Some-reply_to.ensures.corresponds c.stage.result c.stage_after-stage.result c.stage.ensures.stage c.stage_after-stage.ensures.stage
    (sym c.is_wrong.ensures.wrong ∙ c.if-is_wrong.false))
