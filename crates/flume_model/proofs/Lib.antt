-- What the proofs cite of the standard library and of this crate's definitions, by one name of a module.
pub mod Common
-- A list at a place: what is there, what is before and behind it, and what is left when it is replaced.
pub mod PlaceLemmas
-- Offers whose tickets rise: at most one of them has a given ticket, and to filter by it cuts that one out.
pub mod TicketLemmas
-- The cases of how a parked receiver is answered, when it asks and when it leaves.
pub mod AskingCaseLemmas
-- A lawful reply makes a change that fits what is before it.
pub mod LawfulReplyLemmas
-- What wake rounds, a leave and one more entry do to the tickets of entries and to their marks.
pub mod EntryListLemmas
-- Which entries are filled after a wake round, a leave and one more entry, and that their tickets stay apart.
pub mod EntryMarkLemmas
-- How many entries wait and how many are woken, after a wake round, a leave and one more entry.
pub mod EntryCountLemmas
-- No more receivers wait after a wake round, nor after one leaves, nor once all are woken.
pub mod WaitingCountLemmas
-- What a change of the entries does to whether some receiver waits.
pub mod WaitListLemmas
-- What a change that fits does to the tickets of entries and to which of them are filled.
pub mod EntryChangeLemmas
-- What the entries of each run are: their tickets are apart from one another and from those of sends, and they are filled if a reply
-- says so.
pub mod EntryShapeLemmas
-- The shape of each run: what was kept and handed out, the line, tickets.
pub mod order
-- The laws of parked receivers.
pub mod waits
-- The message that a hand-out is of.
pub mod fills
-- The laws for users of a channel.
pub mod users
-- What setting the capacity leaves of a run.
pub mod ResizeLemmas
-- The theorem holds of a run, and so it held at each moment of it.
pub mod TheoremLemmas
