use Rattle.std.proofs.Common.{◌≡◌, ℕ, ◌≤◌, ◌<◌, map, take}
use Rattle.parallel_map.specs.SlotValues.{held}
use Rattle.parallel_map.proofs.answers.in_order.Given as goal

-- so far the wanted values, in order; the places behind are as they were, and those before were full
abbrev pub invariant-loop-number : goal.invariant-loop-number
invariant-loop-number g l = record {
  jobs : l.slots.jobs.now ≡ l.fn.slots.jobs.now;
  values : l.values.items ≡ take l.number (map g.W.Work.meaning l.fn.slots.jobs.now);
  behind : (k : ℕ) → l.number ≤ k → held l.slots.values.items k ≡ held l.fn.slots.values.items k;
  before : (k : ℕ) → k < l.number → held l.fn.slots.values.items k ≡ 1;
}
