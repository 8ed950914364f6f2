-- What is seen at the places.
use Rattle.std.proofs.Common.{refl, arith}
use Rattle.judge_search.proofs.OvertakingLemmas.{dead_if_overtaken, overtaken_at}
use Rattle.judge_search.proofs.configuration.Configuration.is_overtaken.Goals as goal

pub returns : goal.returns
returns g c = record {
  dead = λ is.
      let begun = c.if-not-begins.ensures.begins.0 refl in
      dead_if_overtaken g.T.PartialEq.eq c.args.events.now c.args.place c.args.self.now
      (overtaken_at g.T.PartialEq.eq c.args.events.now c.args.place c.args.self.now c.args.at.count c.args.at.received c.args.at.begun
      c.args.at.returned c.index-events-at.result c.index-events-at-3.result c.index-events-at-2.result c.in-Some.second.thread
      c.in-Some-got.first.thread begun.0 c.in-Some-got.first.message c.in-Some.second.message (omega arith) (omega arith) (omega arith)
      (omega arith) c.index-events-at.is c.in-Some.ensures.got c.index-events-at-3.is begun.1 c.index-events-at-2.is
      c.in-Some-got.ensures.got (c.if-not-is_never_sent.ensures.none refl)
      (c.if-not-has_none_open.ensures.none_open refl) (c.if-not-has_none_open.ensures.trying refl)
      (c.has_in_line.ensures.some_end is) (c.has_in_line.ensures.none_before is) (c.has_in_line.ensures.none_behind is)
      (c.has_in_line.ensures.none_blocked is));
}
