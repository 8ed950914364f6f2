-- With each of them expanded, the level is dead if the next one is.
use Rattle.std.proofs.Common.{◌≡◌, refl, subst, sym, arith}
use Rattle.judge_search.specs.Levels.{AreDead}
use Rattle.judge_search.proofs.LevelLemmas.{grows_not, grows_on, level_dead, none_yet}
use Rattle.judge_search.proofs.levels.Level.advance.Goals as goal

pub loop-index-init : goal.loop-index-init
loop-index-init g c = record {
  grown = grows_not c.args.self.now.seen.list.items;
  expanded = none_yet g.T.PartialEq.eq c.args.events.now c.args.self.now.seen.list.items c.new-next.result.seen.list.items;
}

pub loop-index-preserved : goal.loop-index-preserved
loop-index-preserved g c = record {
  grown = grows_on c.args.self.now.seen.list.items c.loop-index.self.seen.list.items c.expand.new.self.seen.list.items
      c.loop-index.invariant.grown (c.in-Whole.ensures.grown refl);
  expanded = c.in-Whole.ensures.expanded refl c.loop-index.invariant.expanded;
}

pub returns-then-index-len : goal.returns-then-index-len
returns-then-index-len g c = record {
  next = λ next is none.
      let same : c.loop-index.next ≡ next = cc in
      level_dead g.T.PartialEq.eq c.args.events.now c.loop-index.index c.args.self.now.seen.list.items c.loop-index.self.seen.list.items
      c.loop-index.next.seen.list.items c.loop-index.invariant.grown
      (omega (arith, c.if-index-len.true, c.len.ensures, c.loop-index.self.seen.list.ok)) c.loop-index.invariant.expanded
      (subst (λ n. AreDead g.T.PartialEq.eq c.args.events.now n.seen.list.items) (sym same) none);
}
