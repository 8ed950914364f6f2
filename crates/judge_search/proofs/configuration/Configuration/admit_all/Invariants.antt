-- What is left to join is what was, and so many are blocked.
use Rattle.std.proofs.Common.{◌≡◌, ◌+◌, ◌≤◌, length}
use Rattle.judge_search.specs.ByPlaces.{admit_all}
use Rattle.judge_search.proofs.configuration.Configuration.admit_all.Given as goal

abbrev pub invariant-loop : goal.invariant-loop
invariant-loop g l = record {
  same : admit_all l.self ≡ admit_all l.fn.self;
  blocked : length l.self.blocked + l.counter ≤ length l.fn.self.blocked;
}
