use Rattle.judge_search.specs.Dead.{IsDeadEnd}
use Rattle.judge_search.specs.Levels.{AreDead}
use Rattle.judge_search.proofs.levels.find_path.Given as goal

-- if the level is dead, so is the start
abbrev pub invariant-loop-place : goal.invariant-loop-place
invariant-loop-place g l = record {
  dead : AreDead g.T.PartialEq.eq l.events l.level.seen.list.items → IsDeadEnd g.T.PartialEq.eq l.events 0 l.fn.start;
}
