-- How the lists of a channel's state lie in their chains. No contract above this crate names these.
pub mod TicketHash
pub mod Places
pub mod WithTicket
pub mod TicketChainLends
pub mod MessageLayout
pub mod SendLayout
pub mod Pairing
pub mod EntryLayout
