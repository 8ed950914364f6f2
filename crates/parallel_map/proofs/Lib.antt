pub mod PlaceLemmas
pub mod ReceivedLemmas
