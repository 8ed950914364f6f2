-- What a turn that was made leaves in what is kept.
pub mod KeepLemmas
