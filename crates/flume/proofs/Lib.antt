mod FirstTurnLemmas
mod InTimeLemmas
mod ManyReceiveLemmas
mod ManyReceiveStepLemmas
mod ManySendLemmas
mod ManySendPollLemmas
mod ManySendStepLemmas
pub mod OutlivesLemmas
mod ReceivePollLemmas
mod SelectionLemmas
mod SendPollLemmas
mod StepLemmas
-- What a call of a party did, as its actions.
mod TracedLemmas
-- What a call of a party sent and got.
mod TracedCallLemmas
-- What a party's send of many messages sent.
mod TracedSendLemmas
-- What a receive of many of a party did, and what it got.
mod TracedReceiveLemmas
-- What a future with a party did, from poll to poll.
mod TracedSendPollLemmas
mod TracedReceivePollLemmas
-- The arms of a list of sends, one for each pair so far.
mod ArmListLemmas
-- What a party did by a `next` of its iterator, as calls.
mod PartyIteratorLemmas
-- No message is handed to a receiver that parked as an arm.
mod UnfilledArmLemmas
-- What the party of an arm did, from turn to turn.
mod ReceiveArmLemmas
mod SendArmLemmas
-- After a selection no arm has a message but the one that completed.
mod SelectionIdleLemmas
