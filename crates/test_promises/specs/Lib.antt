pub mod Openings
pub mod Receives
