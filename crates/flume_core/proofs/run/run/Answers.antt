-- What a list of steps leaves.
use Rattle.std.proofs.Common.{◌≡◌, [], rules}
use Rattle.flume_core.proofs.TransitionLemmas.{none_done, one_more, all_done, extended, spacious}
use Rattle.flume_model.proofs.TheoremLemmas.{throughout}
use Rattle.flume_core.proofs.run.run.Goals as goal

pub returns-clause-transitions : goal.returns-clause-transitions
returns-clause-transitions g c =
    let now = c.loop-step in
    all_done c.args.chan.now now.chan c.args.steps.items now.rest.items now.replies.items now.invariant.done (search rules)

pub returns-clause-space : goal.returns-clause-space
returns-clause-space g c = spacious _ _ _ _ (returns-clause-transitions g c)

pub returns-clause-steps : goal.returns-clause-steps
returns-clause-steps g c o log h = extended _ _ _ _ (returns-clause-transitions g c) o log h

pub returns-clause-throughout : goal.returns-clause-throughout
returns-clause-throughout g c o log h = throughout o _ (returns-clause-steps g c o log h).run

pub loop-step-init : goal.loop-step-init
loop-step-init g c = record {
  done = rw (c.from_vec-rest.ensures.items, (let none : c.in-Ok.replies.items ≡ [] = search rules in none))
      (none_done c.args.chan.now c.args.steps.items);
  counted = search rules;
  room = search rules;
}

pub loop-step-preserved : goal.loop-step-preserved
loop-step-preserved g c = record {
  done = rw c.push_reserved.ensures.items
      (one_more c.args.chan.now c.loop-step.chan c.step.new.self c.args.steps.items c.pop_front.new.self.items c.loop-step.replies.items
      c.in-Some.step c.step.result (rw c.in-Some.ensures.items at c.loop-step.invariant.done) (record {
        extends = c.step.ensures.step;
        becomes_due = c.step.ensures.becomes_due;
        possible_reply = c.step.ensures.possible_reply;
        space = c.step.ensures.space;
        refused = c.step.ensures.refused;
        unchanged = c.step.ensures.unchanged;
      }));
  counted = search rules;
  room = search rules;
}
