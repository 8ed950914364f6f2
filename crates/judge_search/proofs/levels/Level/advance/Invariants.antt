use Rattle.judge_search.specs.Levels.{Grows, AreExpanded}
use Rattle.judge_search.proofs.levels.Level.advance.Given as goal

-- the first ones are expanded
abbrev pub invariant-loop-index : goal.invariant-loop-index
invariant-loop-index g l = record {
  grown : Grows l.fn.self.seen.list.items l.self.seen.list.items;
  expanded : AreExpanded g.T.PartialEq.eq l.events l.index l.self.seen.list.items l.next.seen.list.items;
}
