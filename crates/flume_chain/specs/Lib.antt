pub mod Links
pub mod ChainState
pub mod ChangedAt
pub mod Lends
