use Rattle.std.proofs.Common.{[]}
use Rattle.flume.specs.Callers.{HasMadeCalls}
use Rattle.example_transfers.proofs.window.send_numbers.Given as goal

-- what was sent is in the list
abbrev pub invariant-loop : goal.invariant-loop
invariant-loop g l = HasMadeCalls l.fn.me l.me l.sent.items []
