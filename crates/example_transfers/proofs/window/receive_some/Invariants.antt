use Rattle.std.proofs.Common.{◌≡◌, [], length}
use Rattle.flume.specs.Callers.{HasMadeCalls}
use Rattle.example_transfers.proofs.window.receive_some.Given as goal

-- what was received is in the list
abbrev pub invariant-loop : goal.invariant-loop
invariant-loop g l =
    HasMadeCalls l.fn.me l.me [] l.got.items × (length l.got.items ≡ l.counter)
