-- Items whose steps wait, each for an event of its thread: what is kept of them.
pub mod LateItemLemmas
-- The steps of an explanation may come late: each waits for an event of its thread.
pub mod LateCallLemmas
-- Items tell of one explanation, but for where drained lists are kept.
pub mod UniqueLemmas
-- A beginning of explained events is explained.
pub mod BeginningLemmas
-- Two logs after which a channel is the same, whatever comes next.
pub mod SameCallsLemmas
-- A step that is answered `Waiting`, by which no receiver waits that didn't before, changes nothing.
pub mod IdleReplyLemmas
-- Items with the newest first: which step may be before which item, and why a call that asked goes on asking.
pub mod IdleItemLemmas
-- Each idle step of an explanation whose steps come late may be taken out.
pub mod IdleStepLemmas
-- Since a moment of a run: which receivers were filled, and that a message that a receiver got was handed out.
pub mod HandedSinceLemmas
-- What is so of a call that began since a moment of a run: a message that it may return was handed out since.
pub mod CallsSinceLemmas
-- Calls that began among items: how a call is known to have begun there.
pub mod CallStartLemmas
-- A message that an open call may return was handed out, and not before the call began.
pub mod ReceivedLemmas
-- Of which messages the steps of calls make no offer.
pub mod OffersMadeLemmas
-- If each send of such messages has returned, no thread has one open.
pub mod SendsReturnedLemmas
-- Items, the newest first, split at a place of their events.
pub mod SplitItemLemmas
-- A message that was received was sent.
pub mod UnsentLemmas
-- Messages are received in the order in which they were sent.
pub mod InOrderLemmas
pub mod CutLemmas
pub mod LinePartLemmas
pub mod ThreadNameLemmas
pub mod ReadEventLemmas
pub mod DigitLemmas
pub mod CallWordLemmas
pub mod AnswerWordLemmas
pub mod SpacedNumberLemmas
