-- What callers cite: calls one after the other.
pub mod CallerLemmas
