-- The last event, and those before it, at the places.
use Rattle.std.proofs.Common.{arith}
use Rattle.judge_search.proofs.SeenPatternLemmas.{out_of_order}
use Rattle.judge_search.proofs.patterns.is_out_of_order.Goals as goal

pub returns-then-begins : goal.returns-then-begins
returns-then-begins g c = record {
  order = λ is.
      let begun = c.begins.ensures.begins.0 c.if-begins.true in
      out_of_order g.T.PartialEq.eq c.args.events.now c.in-Some.before.now c.in-Some.last.now c.index-before-at.result
      c.index-before-at-2.result
      c.args.at.sent c.args.at.received c.args.at.begun c.in-Some-got.first.thread c.in-Some-got-2.second.thread begun.0
      c.in-Some-got.first.message c.in-Some-got-2.second.message c.in-Some.ensures.cases.0 c.in-Some-got.ensures.got
      (omega arith) (omega arith) (omega arith) c.index-before-at.is c.in-Some-got-2.ensures.got c.index-before-at-2.is begun.1
      (c.is_sent_first.ensures.returned is) (c.is_sent_first.ensures.no_first is) (c.is_sent_first.ensures.no_second is);
}
