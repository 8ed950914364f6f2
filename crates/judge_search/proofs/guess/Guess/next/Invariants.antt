use Rattle.std.specs.VecDeque.{deque_len}
use Rattle.judge_search.proofs.guess.Guess.next.Given as goal

-- each turn takes a frame away
abbrev pub invariant-loop-frame : goal.invariant-loop-frame
invariant-loop-frame g l = Unit

abbrev pub decreases-loop-frame : goal.decreases-loop-frame
decreases-loop-frame g l = deque_len l.self.frames
