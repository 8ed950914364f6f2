use Rattle.std.proofs.Common.{◌≡◌, drop}
use Rattle.judge_calls.specs.Patterns.{returns_in}
use Rattle.judge_search.proofs.patterns.returns_in.Given as goal

-- whether a call of the thread returns is so far decided by the events from here on
abbrev pub invariant-loop-event : goal.invariant-loop-event
invariant-loop-event g l = record { rest : returns_in l.own l.events ≡ returns_in l.own (drop l.event-index l.events) }
