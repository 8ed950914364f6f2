-- A step leads as the move does that it is.
use Rattle.std.proofs.Common.{sym, ◌∙◌, ap, true, false}
use Rattle.std.specs.Option.{option_copied}
use Rattle.judge_search.proofs.AfterMoveLemmas.{no_call, no_move, step_leads, step_wrong}
use Rattle.judge_search.proofs.configuration.Configuration.after.Goals as goal

pub returns-in_default-clause-nowhere : goal.returns-in_default-clause-nowhere
returns-in_default-clause-nowhere g c = λ e rest t has there first.
    no_call g.T.PartialEq.eq c.args.events.now c.args.self.now c.args.one c.args.other c.args.refused rest t has there
    (sym c.call_at.ensures.call ∙ ap option_copied c.in_default.is)

pub returns-in_default-move_of-clause-nowhere : goal.returns-in_default-move_of-clause-nowhere
returns-in_default-move_of-clause-nowhere g c = λ e rest t has there first.
    no_move g.T.PartialEq.eq c.args.events.now c.args.self.now c.args.one c.args.other c.args.refused rest t has there c.in-Some.call.now
    (sym c.call_at.ensures.call ∙ ap option_copied c.in-Some.is) (sym c.move_of.ensures.moves ∙ c.in_default-move_of.is)

pub returns-then-refused-clause-leads : goal.returns-then-refused-clause-leads
returns-then-refused-clause-leads g c = λ new e rest t has there first.
    step_leads g.T.PartialEq.eq c.args.events.now c.args.self.now c.args.one c.args.other c.args.refused rest t has there c.in-Some.call.now
    (sym c.call_at.ensures.call ∙ ap option_copied c.in-Some.is) c.in-Some-move_of.mv
    (sym c.move_of.ensures.moves ∙ c.in-Some-move_of.is) (option_copied c.args.recorded) first true c.if-refused.true new
    (c.after_refusal.ensures.leads c.args.events.now new e)

pub returns-then-refused-clause-same : goal.returns-then-refused-clause-same
returns-then-refused-clause-same g c = λ e rest t has there first.
    step_leads g.T.PartialEq.eq c.args.events.now c.args.self.now c.args.one c.args.other c.args.refused rest t has there c.in-Some.call.now
    (sym c.call_at.ensures.call ∙ ap option_copied c.in-Some.is) c.in-Some-move_of.mv
    (sym c.move_of.ensures.moves ∙ c.in-Some-move_of.is) (option_copied c.args.recorded) first true c.if-refused.true c.args.self.now
    (c.after_refusal.ensures.same c.args.events.now e)

pub returns-then-refused-clause-nowhere : goal.returns-then-refused-clause-nowhere
returns-then-refused-clause-nowhere g c = λ e rest t has there first.
    step_wrong g.T.PartialEq.eq c.args.events.now c.args.self.now c.args.one c.args.other c.args.refused rest t has there c.in-Some.call.now
    (sym c.call_at.ensures.call ∙ ap option_copied c.in-Some.is) c.in-Some-move_of.mv
    (sym c.move_of.ensures.moves ∙ c.in-Some-move_of.is) (option_copied c.args.recorded) first true c.if-refused.true
    (c.after_refusal.ensures.nowhere c.args.events.now e)

pub returns-else-refused-clause-leads : goal.returns-else-refused-clause-leads
returns-else-refused-clause-leads g c = λ new e rest t has there first.
    step_leads g.T.PartialEq.eq c.args.events.now c.args.self.now c.args.one c.args.other c.args.refused rest t has there c.in-Some.call.now
    (sym c.call_at.ensures.call ∙ ap option_copied c.in-Some.is) c.in-Some-move_of.mv
    (sym c.move_of.ensures.moves ∙ c.in-Some-move_of.is) (option_copied c.args.recorded) first false c.if-refused.false new
    (c.after_move.ensures.leads new e)

pub returns-else-refused-clause-same : goal.returns-else-refused-clause-same
returns-else-refused-clause-same g c = λ e rest t has there first.
    step_leads g.T.PartialEq.eq c.args.events.now c.args.self.now c.args.one c.args.other c.args.refused rest t has there c.in-Some.call.now
    (sym c.call_at.ensures.call ∙ ap option_copied c.in-Some.is) c.in-Some-move_of.mv
    (sym c.move_of.ensures.moves ∙ c.in-Some-move_of.is) (option_copied c.args.recorded) first false c.if-refused.false c.args.self.now
    (c.after_move.ensures.same e)

pub returns-else-refused-clause-nowhere : goal.returns-else-refused-clause-nowhere
returns-else-refused-clause-nowhere g c = λ e rest t has there first.
    step_wrong g.T.PartialEq.eq c.args.events.now c.args.self.now c.args.one c.args.other c.args.refused rest t has there c.in-Some.call.now
    (sym c.call_at.ensures.call ∙ ap option_copied c.in-Some.is) c.in-Some-move_of.mv
    (sym c.move_of.ensures.moves ∙ c.in-Some-move_of.is) (option_copied c.args.recorded) first false c.if-refused.false
    (c.after_move.ensures.nowhere e)
