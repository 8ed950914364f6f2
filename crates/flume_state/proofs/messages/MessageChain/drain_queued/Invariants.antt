use Rattle.std.proofs.Common.{◌≡◌, ◌++◌, ◌+◌, ◌≤◌, length, vec_capacity, vec_len}
use Rattle.flume_state.proofs.messages.MessageChain.drain_queued.Given as goal

abbrev pub invariant-loop-message : goal.invariant-loop-message
invariant-loop-message g l =
    (l.list.items ++ l.self.queued ≡ l.initial.self.queued) × (l.self.blocked ≡ l.initial.self.blocked)
    × (l.self.space ≡ l.initial.self.space)
    × (vec_len l.list + length l.self.queued ≤ vec_capacity l.list)

abbrev pub decreases-loop-message : goal.decreases-loop-message
decreases-loop-message g l = length l.self.queued
