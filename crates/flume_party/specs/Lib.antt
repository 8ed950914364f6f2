pub mod Owners
pub mod Picks
pub mod Interleavings
pub mod Parties
