-- The last event, and those before it.
use Rattle.judge_search.proofs.SeenPatternLemmas.{unsent_at}
use Rattle.judge_search.proofs.patterns.is_unsent.Goals as goal

pub returns-in-Some-got : goal.returns-in-Some-got
returns-in-Some-got g c = record {
  unsent = λ is. unsent_at g.T.PartialEq.eq c.args.events.now c.in-Some.before.now c.in-Some.last.now c.in-Some-got.own.thread
      c.in-Some-got.own.message
      c.in-Some.ensures.cases.0 c.in-Some-got.ensures.got (c.is_never_sent.ensures.none is);
}
