-- The laws for users of a channel.
-- What a lawful reply gives out is what its change gives out.
pub mod GivingLemmas
-- What wake rounds, leaves and one more entry do to the weight of the messages that entries hold.
pub mod HoldingLemmas
-- What one more pair of a run offers, and what was there before it, weighs as much as what it gives out and leaves.
pub mod BalanceLemmas
-- By every weight, what was offered is what was given out and what is still there.
pub mod ConservingLemmas
-- The places that the elements which a filter keeps have in the list.
pub mod FilterPlaceLemmas
-- Offers are handed out in the order in which they were made.
pub mod ProducingLemmas
-- Lists of entries that all block: what changes leave of them, and what wake rounds do to them.
pub mod BlockEntryLemmas
-- If all receivers block, no more is queued than the greatest capacity so far.
pub mod AllBlockingLemmas
