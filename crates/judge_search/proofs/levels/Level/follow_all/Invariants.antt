use Rattle.std.proofs.Common.{vec_len}
use Rattle.judge_search.specs.Levels.{Grows}
use Rattle.judge_search.proofs.LevelLemmas.{AreLeft}
use Rattle.judge_search.proofs.levels.Level.follow_all.Given as goal

-- the levels grow, and what may come next leads into them, or is among the choices that are left
abbrev pub invariant-loop-choice : goal.invariant-loop-choice
invariant-loop-choice g l = record {
  grown : Grows l.fn.self.seen.list.items l.self.seen.list.items;
  grown_next : Grows l.fn.next.seen.list.items l.next.seen.list.items;
  left : AreLeft g.T.PartialEq.eq l.events l.self.seen.list.items l.next.seen.list.items l.place l.configuration l.choices.items;
}

abbrev pub decreases-loop-choice : goal.decreases-loop-choice
decreases-loop-choice g l = vec_len l.choices
