-- What the proofs here cite of chains, passed on from one place.
mod Chains
-- Elements in order, each place of one at most: one among others, and what is read and written there.
pub mod PlacedLemmas
-- The messages of a chain under its methods.
pub mod MessageLemmas
-- What each method leaves of messages that are laid out, and what its callers see of that.
pub mod MessageStepLemmas
-- How many messages may be in a chain before more memory is wanted, under its methods.
pub mod MessageSpaceLemmas
-- The blocked message at a place, what is left of the messages without it, and which places blocked ones have.
pub mod WithdrawalLemmas
-- The walk along the blocked messages of a chain, which marks the send of each.
pub mod MessageMarkLemmas
-- The elements of a chain under single changes: what is at their places, and in which order they are.
pub mod EntryPartLemmas
-- The three parts of the parked receivers' chain, and their boundaries, under each step.
pub mod EntrySortedLemmas
-- The parked receiver that a ticket finds, in the chain and among the entries.
pub mod EntrySeatLemmas
-- The first that waits and the first that is due, and what becomes of them.
pub mod EntryDueLemmas
-- A parked receiver that asks again: it waits on in its place, or behind all others if it was woken.
pub mod EntryAskLemmas
-- The first that is due, and what becomes of it once it is named.
pub mod EntryNotifyLemmas
-- The list of parked receivers: how many of them wait.
pub mod EntryListLemmas
-- A wake round over the list of parked receivers, as steps: each wakes the first that waits.
pub mod EntryRoundLemmas
-- What the loop of a wake round keeps, and what it leaves in the end.
pub mod EntryWakeLemmas
-- Laws of the live sends' map, for callers: what `get` finds after each change, and which changes undo, join or pass each other.
pub mod SendMapLemmas
-- Laws of finite maps from tickets: what `get` finds after each change, and which changes undo, replace or pass each other.
pub mod MapLemmas
-- How a `HashMap` from tickets is seen as a finite map, and what a table that isn't made has.
pub mod TableLemmas
-- The places as the lone one and the others: what changes of the one, and of the others, are changes of all.
pub mod PlaceLemmas
-- A chain with tickets under single edits: which place each ticket has, and how many elements have it.
pub mod TicketLemmas
-- The map from tickets to places, if a ticket is put in ahead of its place, or moved.
-- A chain with tickets if an element is taken out, moved or changed: its map goes with it.
pub mod TicketEditLemmas
-- The map of the values that are under a ticket in a chain, and where the element with a ticket is.
pub mod ByTicketLemmas
-- The chain of the live sends stays one of those that aren't due and then those that are.
pub mod SendLineLemmas
-- What each method of the live sends leaves of their chain, and of the map that it is seen as.
pub mod SendStepLemmas
-- The first of the live sends that is due, and what its telling leaves of the chain.
pub mod FirstDueLemmas
-- The chain of the live sends seen without the places of their messages, and the link of each place, under each edit.
pub mod LinkLemmas
-- Blocked messages and their sends, which name each other's places, under the methods of a line.
pub mod PairLemmas
