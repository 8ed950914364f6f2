-- One more configuration of the level is expanded.
use Rattle.std.proofs.Common.{refl, subst}
use Rattle.judge_search.specs.Configurations.{State}
use Rattle.judge_search.specs.Levels.{IsExpanded}
use Rattle.judge_search.specs.Search.{configuration_at}
use Rattle.judge_search.proofs.LevelLemmas.{one_more, up_to}
use Rattle.judge_search.proofs.levels.Level.expand.Goals as goal

pub returns-then-follow_all-clause-expanded : goal.returns-then-follow_all-clause-expanded
returns-then-follow_all-clause-expanded g c = λ is before.
    one_more g.T.PartialEq.eq c.args.events.now c.args.index c.args.self.now.seen.list.items c.args.next.now.seen.list.items
    c.follow_all.new.self.seen.list.items c.follow_all.new.next.seen.list.items c.index-one.result.now
    (up_to g.T.PartialEq.eq c.args.events.now c.args.self.now.seen.list.items c.args.index c.index-one.result.now c.requires.within
    c.index-one.ensures)
    c.requires.within (c.if-follow_all.ensures.grown refl) (c.if-follow_all.ensures.grown_next refl)
    (subst (λ (s : State). IsExpanded g.T.PartialEq.eq c.args.events.now c.follow_all.new.self.seen.list.items
    c.follow_all.new.next.seen.list.items (configuration_at c.index-one.result.now.place s)) c.in-Some.ensures.same
    (c.if-follow_all.ensures.expanded refl))
    before
