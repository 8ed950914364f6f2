-- The laws of parked receivers.
-- What is before a step of a run, and how long the line is after it: numbers alone, for the laws of parked receivers.
pub mod WaitingStepLemmas
-- While a receiver waits, at least as many are woken as messages are queued.
pub mod CoveringLemmas
-- Queued messages and waiting receivers are together at most the greater of the greatest capacity and the most that waited at once.
pub mod BoundingLemmas
-- A receiver waits only in an open channel, and only while no sender is blocked; once both sides have disconnected nothing is left.
pub mod WaitingOpenLemmas
-- A receiver that blocks is woken only in a closed channel, and only if no sender is blocked.
pub mod WokenBlockLemmas
-- Nobody is stuck: if nobody is woken, nobody waits for a message or for room that is there.
pub mod StuckLemmas
-- The laws of parked receivers that hold of each run.
pub mod WaitingLaws
-- A wake round follows its rule, and nothing else does.
pub mod WakeRuleLemmas
