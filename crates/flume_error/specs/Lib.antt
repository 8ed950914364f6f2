pub mod Messages
pub mod Texts
pub mod Equality
pub mod Kinds
