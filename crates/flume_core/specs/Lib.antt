pub mod Represents
pub mod PossibleReply
pub mod Waiting
pub mod NoMemoryRule
pub mod Transitions
pub mod StateFacts
