use Rattle.flume_laws.specs.Forwards.{HasForwarded}
use Rattle.example_exchange.specs.Halving.{half}
use Rattle.example_exchange.proofs.threads.halve_all.Given as goal

-- what was received was halved
abbrev pub invariant-loop : goal.invariant-loop
invariant-loop g l =
    HasForwarded half l.fn.halver.reader l.reader l.fn.halver.writer l.writer
