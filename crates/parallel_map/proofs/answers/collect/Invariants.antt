use Rattle.std.proofs.Common.{◌≡◌}
use Rattle.parallel_map.proofs.ReceivedLemmas.{Filled}
use Rattle.parallel_map.proofs.answers.collect.Given as goal

-- the slots are those of the jobs, and filled by the answers that came
abbrev pub invariant-loop-answer : goal.invariant-loop-answer
invariant-loop-answer g l = record {
  jobs : l.slots.jobs.now ≡ l.jobs;
  filled : Filled g.I.Iterator.next_gives (λ answer. (answer.number, answer.job)) l.jobs l.slots.values.items l.yielded;
}
