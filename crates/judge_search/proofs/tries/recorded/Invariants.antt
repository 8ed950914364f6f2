use Rattle.std.proofs.Common.{◌≡◌, drop}
use Rattle.judge_search.specs.Configurations.{first_answer}
use Rattle.judge_search.proofs.tries.recorded.Given as goal

-- the events before this one return nothing of the thread
abbrev pub invariant-loop-next : goal.invariant-loop-next
invariant-loop-next g l = record { first : first_answer l.own (drop l.place l.events) ≡ first_answer l.own (drop l.next l.events) }
