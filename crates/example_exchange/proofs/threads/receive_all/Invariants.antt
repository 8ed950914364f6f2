use Rattle.std.proofs.Common.{[]}
use Rattle.flume.specs.Callers.{HasMadeCalls}
use Rattle.example_exchange.proofs.threads.receive_all.Given as goal

-- what was received is in the list
abbrev pub invariant-loop-item : goal.invariant-loop-item
invariant-loop-item g l = HasMadeCalls l.fn.me l.messages.party [] l.items.items

-- no run makes so many calls
abbrev pub decreases-loop-item : goal.decreases-loop-item
decreases-loop-item g l = l.messages.calls_left
