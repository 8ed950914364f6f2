pub mod Loops
pub mod LocalSends
pub mod LocalReceives
