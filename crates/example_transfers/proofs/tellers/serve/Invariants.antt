use Rattle.std.proofs.Common.{◌≡◌, ◌+◌, sum}
use Rattle.flume_laws.specs.Invariants.{HasMadeCallsWhere}
use Rattle.example_transfers.proofs.tellers.serve.Given as goal

-- what was sent so far has left the account, and what was received is on it
abbrev pub invariant-loop-amount : goal.invariant-loop-amount
invariant-loop-amount g l =
    HasMadeCallsWhere l.fn.me l.me (λ sent got. l.account + sum sent ≡ l.fn.account + sum got)

abbrev pub invariant-loop : goal.invariant-loop
invariant-loop g l =
    HasMadeCallsWhere l.fn.me l.me (λ sent got. l.account + sum sent ≡ l.fn.account + sum got)
