pub mod Asking
pub mod Halving
