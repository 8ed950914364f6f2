use Rattle.std.proofs.Common.{[], take}
use Rattle.flume.specs.Callers.{HasMadeCalls}
use Rattle.example_exchange.proofs.threads.send_all.Given as goal

-- the items so far were sent
abbrev pub invariant-loop-item : goal.invariant-loop-item
invariant-loop-item g l = HasMadeCalls l.fn.me l.me (take l.item-index l.items) []
