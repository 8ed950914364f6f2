-- The message that a hand-out is of.
-- A filled receiver's entry holds its message through every change but its own leaving, and a wake round fills with the front.
pub mod FillsKeptLemmas
-- What the replies of a run show to parked receivers: none while its entry is there, and the message that it holds as it leaves.
pub mod FillsShownLemmas
-- Of each run, a hand-out that filled a receiver is of the message of the kept offer at its place.
pub mod FillsOrderLemmas
