-- The elements of a list at some positions.
pub mod PickLemmas
-- How many they are.
pub mod CountLemmas
-- Two lists, merged into one.
pub mod InterleavingLemmas
-- A party and the shared trace, after each function.
pub mod PartyLemmas
