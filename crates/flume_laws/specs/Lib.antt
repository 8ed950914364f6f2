pub mod Together
pub mod Invariants
pub mod Forwards
pub mod Offered
pub use Rattle.flume_party.specs.Interleavings
