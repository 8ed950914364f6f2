-- The call's own step comes next, with the reply that was followed.
use Rattle.std.proofs.Common.{refl, subst, rules}
use Rattle.judge_calls.specs.declared.event.Item.TheVariants.{Makes}
use Rattle.judge_calls.specs.Explanations.{IsNextStep}
use Rattle.judge_calls.proofs.UniqueLemmas.{unlawful}
use Rattle.judge_calls.proofs.explanation.makes.Goals as goal

pub returns-then-take_step-clause-lawful : goal.returns-then-take_step-clause-lawful
returns-then-take_step-clause-lawful g c is o past reachable =
    let so = c.follow_reply.ensures.lawful c.in-Lawful.reply c.in-Lawful.is o _ reachable.represents in
    record {
      own = Makes c.args.thread c.in-Some.own c.in-Lawful.reply;
      describes = (refl, c.in-Some.ensures.own.1, so.0);
      fits = subst (λ current. IsNextStep current c.in-Some.own) (reachable.has c.args.thread) c.in-Some.ensures.own.0;
      leads = record {
        has = c.take_step.ensures.open_after (search rules) past c.in-Some.own reachable.has;
        represents = so.1;
      };
    }

pub returns-in-Unlawful-clause-not_lawful : goal.returns-in-Unlawful-clause-not_lawful
returns-in-Unlawful-clause-not_lawful g c is o past reachable =
    unlawful g.T.PartialEq.eq o past c.args.thread c.args.step.now c.args.recorded.now c.in-Some.own
    (subst (λ current. IsNextStep current c.in-Some.own) (reachable.has c.args.thread) c.in-Some.ensures.own.0) c.in-Some.ensures.own.1
    (c.follow_reply.ensures.not_lawful c.in-Unlawful.is o _ reachable.represents)
