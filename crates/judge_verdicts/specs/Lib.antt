pub mod Kinds
pub mod ItemLines
pub mod Turns
pub mod CallsText
