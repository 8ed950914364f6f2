mod GotLemmas
mod DueCountLemmas
mod RingLemmas
mod WhoIsDueLemmas
mod EachIsRungLemmas
mod NoCallWaitsLemmas
pub mod LeadsToLemmas
mod AvailableLemmas
mod ManyReceiveLemmas
mod ManySendLemmas
-- A call through a gate, as one through what is seen of the gate.
pub mod GateLemmas
