-- A choice that is followed is one less; with none left, the configuration is expanded.
use Rattle.std.proofs.Common.{◌≡◌, length, subst, arith}
use Rattle.std.proofs.lemmas.List.{nil_from_length}
use Rattle.judge_search.proofs.LevelLemmas.{grows_not, grows_on, AreLeft, all_left, one_less, none_left}
use Rattle.judge_search.proofs.levels.Level.follow_all.Goals as goal

pub loop-choice-init : goal.loop-choice-init
loop-choice-init g c = record {
  grown = grows_not c.args.self.now.seen.list.items;
  grown_next = grows_not c.args.next.now.seen.list.items;
  left = all_left g.T.PartialEq.eq c.args.events.now c.args.self.now.seen.list.items c.args.next.now.seen.list.items c.args.place
      c.args.configuration.now c.in-Some.choices.items c.in-Some.ensures.cover;
}

pub loop-choice-preserved : goal.loop-choice-preserved
loop-choice-preserved g c = record {
  grown = grows_on c.args.self.now.seen.list.items c.loop-choice.self.seen.list.items c.follow.new.self.seen.list.items
      c.loop-choice.invariant.grown (c.follow.ensures.grown c.if-not-follow.false);
  grown_next = grows_on c.args.next.now.seen.list.items c.loop-choice.next.seen.list.items c.follow.new.next.seen.list.items
      c.loop-choice.invariant.grown_next (c.follow.ensures.grown_next c.if-not-follow.false);
  left = one_less g.T.PartialEq.eq c.args.events.now c.loop-choice.self.seen.list.items c.loop-choice.next.seen.list.items
      c.follow.new.self.seen.list.items c.follow.new.next.seen.list.items c.args.place c.args.configuration.now c.pop.new.self.items
      c.in-Some-pop.choice
      (subst (AreLeft g.T.PartialEq.eq c.args.events.now c.loop-choice.self.seen.list.items c.loop-choice.next.seen.list.items c.args.place
      c.args.configuration.now) c.in-Some-pop.ensures.items c.loop-choice.invariant.left)
      (c.follow.ensures.grown c.if-not-follow.false) (c.follow.ensures.grown_next c.if-not-follow.false)
      (c.follow.ensures.followed c.if-not-follow.false);
}

pub returns-clause-expanded : goal.returns-clause-expanded
returns-clause-expanded g c = λ yes.
    let empty : length c.loop-choice.choices.items ≡ 0 = omega (arith, c.in_default-pop.ensures.cases, c.loop-choice.choices.ok) in
    none_left g.T.PartialEq.eq c.args.events.now c.loop-choice.self.seen.list.items c.loop-choice.next.seen.list.items c.args.place
    c.args.configuration.now c.requires.within
    (subst (AreLeft g.T.PartialEq.eq c.args.events.now c.loop-choice.self.seen.list.items c.loop-choice.next.seen.list.items c.args.place
    c.args.configuration.now) (nil_from_length c.loop-choice.choices.items empty) c.loop-choice.invariant.left)
