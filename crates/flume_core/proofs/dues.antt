-- Which tickets are due after each step: of one ticket, of all sends, of all parked receivers, and
-- after what each step leaves.
-- Which tickets are due, of one ticket: how its send or its receiver was, and how it is.
pub mod OneTicketLemmas
-- The live sends' map if messages move in, and if the channel is closed.
pub mod SendsDueLemmas
-- Which tickets are due of the parked receivers: wake rounds, closing, and what becomes of one of them.
pub mod ReceiversDueLemmas
-- Which tickets are due of the sends and of the receivers after what a step leaves of them, if the channel isn't closed.
pub mod BothSideLemmas
-- Blocked messages that move into the queue: whose sends are accepted by that.
pub mod MovedInLemmas
-- What a state that some run led to says of its tickets, as far as which tickets are due depends on it.
pub mod TicketLemmas
-- Which tickets are due after what each step leaves.
pub mod AfterStepLemmas
