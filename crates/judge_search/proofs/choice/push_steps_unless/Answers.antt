-- The steps that were pushed are the call's.
use Rattle.std.proofs.Common.{inl}
use Rattle.judge_search.proofs.StepLemmas.{steps_added}
use Rattle.judge_search.proofs.choice.push_steps_unless.Goals as goal

pub returns-else-eq-clause-steps : goal.returns-else-eq-clause-steps
returns-else-eq-clause-steps g c = λ done other refused.
    inl (steps_added c.args.choices.now.items c.push_steps.new.choices.items c.args.call (c.push_steps.ensures.steps done) other refused)
