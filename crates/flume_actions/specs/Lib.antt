pub mod Actions
pub mod SendCalls
pub mod ReceiveCalls
pub mod Calls
pub mod Callers
