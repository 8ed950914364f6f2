-- The event itself comes next.
use Rattle.std.proofs.Common.{refl, rules}
use Rattle.judge_calls.specs.declared.event.Item.TheVariants.{Happens}
use Rattle.judge_calls.proofs.explanation.happens.Goals as goal

pub returns-then-take_event-clause-lawful : goal.returns-then-take_event-clause-lawful
returns-then-take_event-clause-lawful g c is o past reachable = record {
  own = Happens c.args.event.now;
  describes = refl;
  fits = (c.may_happen.ensures.fits past reachable.has).0 (search rules);
  leads = record {
    has = c.take_event.ensures.open_after (search rules) past reachable.has;
    represents = reachable.represents;
  };
}
