pub mod TakingLemmas
