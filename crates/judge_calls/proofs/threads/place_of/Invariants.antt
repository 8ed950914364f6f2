use Rattle.std.proofs.Common.{◌≡◌, ◌<◌, ℕ}
use Rattle.judge_calls.specs.EventLines.{name_of}
use Rattle.judge_calls.specs.Recordings.{names_of}
use Rattle.judge_calls.proofs.threads.place_of.Given as goal

-- no name before this place is the one that is looked for
abbrev pub invariant-loop-place : goal.invariant-loop-place
invariant-loop-place l = (t : ℕ) → t < l.place → ¬ (name_of (names_of l.names) t ≡ l.name)
