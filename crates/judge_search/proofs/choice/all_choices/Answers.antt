-- Each call has its steps; the own one last.
use Rattle.std.proofs.Common.{◌++◌, ◌∷◌, [], sym, ◌∙◌, ap, subst, if◌then◌else◌}
use Rattle.std.proofs.lemmas.List.{take_all}
use Rattle.judge_search.specs.declared.choice.Choice.TheVariants.{TakeEvent}
use Rattle.judge_search.proofs.StepLemmas.{AreStepsBut, steps_more, steps_all}
use Rattle.judge_search.proofs.choice.all_choices.Goals as goal

pub loop-call-preserved : goal.loop-call-preserved
loop-call-preserved g c = record {
  steps = steps_more c.args.own c.loop-call.choices.items c.push_steps_unless.new.choices.items c.args.calls.now c.loop-call.call-index _
      c.loop-call-test.true c.loop-call.invariant.steps (c.push_steps_unless.ensures.old_choices c.if-not-push_steps_unless.false)
      (c.push_steps_unless.ensures.steps c.if-not-push_steps_unless.false);
}

pub returns-then-is_ok-clause-steps : goal.returns-then-is_ok-clause-steps
returns-then-is_ok-clause-steps g c =
    steps_all c.args.own c.loop-call.choices.items c.push_steps.new.choices.items c.push.new.self.items c.args.calls.now TakeEvent
    (subst (AreStepsBut c.args.own c.loop-call.choices.items) (take_all c.loop-call.call-index c.args.calls.now c.loop-call-test.false)
    c.loop-call.invariant.steps)
    (c.push_steps.ensures.steps c.if-push_steps.true)
    (c.push.ensures.items ∙ ap (λ b. if b then c.push_steps.new.choices.items ++ TakeEvent ∷ [] else c.push_steps.new.choices.items)
    (sym c.is_ok.ensures.value ∙ c.if-is_ok.true))
