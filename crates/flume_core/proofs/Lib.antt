-- A new channel.
mod StartLemmas
-- The entries of a state as a log knows them: what is done to the ones is done to the others.
pub mod BareEntryLemmas
-- What a state that represents a log says of the log.
pub mod ViewLemmas
-- The tickets of blocked messages are live.
mod BlockedLiveLemmas
-- What holds of a state that represents a log.
mod StateFactLemmas
-- What a step has to leave of a state for it to represent the log with that step added.
pub mod RepresentsLemmas
-- The state of each ticket once a send has blocked, was accepted or is spent.
mod MarkLemmas
-- What a step leaves represents the log with that step added, if it moves no message and no ticket of a send.
pub mod InvariantLemmas
-- What each step of a sender leaves represents the log with that step added.
pub mod MoveLemmas
-- How many messages may be in a channel before more memory is wanted, once blocked ones moved in.
mod SpaceLemmas
-- What each step of a parked receiver leaves represents the log with that step added.
pub mod ReceiveLemmas
-- A message handed out: what that leaves represents the log with that step added.
pub mod TakeLemmas
-- What a take leaves if nobody is blocked.
pub mod UnblockedLemmas
-- All queued messages handed out: what that leaves represents the log with that step added.
pub mod DrainLemmas
-- The capacity set: what that leaves represents the log with that step added.
pub mod ResizeLemmas
-- Signals, and what is due, are no matter of the log: it holds if they change.
mod NotifyLemmas
-- What the calls of `Chan` find, and what that says of the log.
pub mod AnsweringLemmas
-- A call that may wait and doesn't is answered as one that doesn't wait.
mod TryLemmas
-- An end that leaves: what that leaves represents the log with that step added.
pub mod ClosingLemmas
-- How a parked receiver may be answered, by its kind and its mark.
pub mod AskedMarkLemmas
-- How a parked receiver is answered that asks again or leaves, and what that leaves.
pub mod AskLemmas
-- A list of steps that is done in part, and what one that is done leaves.
mod TransitionLemmas
-- Which tickets are due after each step: of one ticket, of all sends, of all parked receivers, and after what each step leaves.
pub mod dues
