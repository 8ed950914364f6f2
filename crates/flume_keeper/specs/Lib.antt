pub mod Keeps
pub mod Moves
pub mod ManyMoves
pub mod Identities
