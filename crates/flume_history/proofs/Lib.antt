-- Functions of several values that are the same.
mod FunctionLemmas
-- Under a ticket one message is blocked after a run, and no other.
pub mod OneBlockedLemmas
-- What excludes what in a channel, so that a step has at most one reply other than `NoMemory`.
mod ApartLemmas
-- A send, and a blocked one that asks or leaves, has at most one reply other than `NoMemory`.
mod OneSendLemmas
-- A receive, and a parked receiver that asks or leaves, has at most one reply other than `NoMemory`.
mod OneReceiveLemmas
-- After a run each step has at most one reply other than `NoMemory`.
pub mod OneReplyLemmas
-- Logs of the same steps with the same replies lead to the same channel: a drained list counts by its messages, wherever it is kept.
pub mod SameLogLemmas
-- Runs of the same steps are the same.
pub mod OneRunLemmas
-- If a state says that memory may be needed, the abstract channel may answer so.
pub mod NoMemoryRuleLemmas
-- What equal replies have in common.
pub mod EqualityLemmas
-- A history that was followed so far is followed on, or breaks.
pub mod FollowLemmas
-- Where the step of a line ends: at its first hyphen, since no step has one.
pub mod PairLineLemmas
-- What the text of a reply tells: whether memory was needed.
pub mod ReplyWantLemmas
-- Which texts are lawful: that of the channel's own reply, and that of `NoMemory` if memory may be needed.
pub mod LawfulLemmas
-- A history that was followed so far, with what was said: it goes on, or breaks.
pub mod JudgeLemmas
