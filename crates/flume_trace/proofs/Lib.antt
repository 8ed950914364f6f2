-- Lists that are beginnings of others.
pub mod PrefixLemmas
-- The tickets of positions: no two are of one position, and new ones come from those left.
pub mod TicketLemmas
-- What a trace and its claims own, before and after each function.
pub mod ChangeLemmas
-- The machine value of a struct that is one marker.
pub mod MarkerLemmas
-- Nothing that the types own is tied to a thread.
pub mod CrossingLemmas
-- The names of the logic that the walks cite.
pub mod Walks
