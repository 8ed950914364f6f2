use Rattle.futures.specs.Task.{Keeps}
use Rattle.bench_channel.proofs.loops.LoopFuture.poll.Given as goal

abbrev pub invariant-loop-left : goal.invariant-loop-left
invariant-loop-left g l = Keeps l.initial.cx l.cx
