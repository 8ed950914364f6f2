pub mod Weights
pub mod Recorded
pub mod Settled
pub mod Misplaced
pub mod Only
