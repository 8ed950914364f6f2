-- Lists merged into one: what each element makes, and what each counts.
mod MergeLemmas
-- A party's actions as turns, one after the other, and what it sends and gets by them.
mod TurnLemmas
-- The actions of whole calls are a course, which sends and gets what the calls did.
mod CallLemmas
-- Parties, by their courses.
mod PartyLemmas
-- Parties of which one makes the next action.
mod GotMemberLemmas
-- What parties are still to get, merged, before one of them got more and before one was filled.
mod GotDueLemmas
-- How many entries have a ticket after each change, and that a filled receiver held nothing before.
mod GotEntryLemmas
-- What one action of a party hands out: what the party gets by it now, and what fills another.
mod GotEffectLemmas
-- What each turn of a party hands out, also of one that is parked.
mod GotParkedLemmas
-- What is shown to a receiver stays so to the end of a run, and what it was handed before a fill.
mod GotShownLemmas
-- What is handed out from a moment of a run on is what its parties are still due.
mod GotRunLemmas
-- What parties got is what was handed out, in its order.
mod GotInOrderLemmas
-- Offers whose tickets are live.
mod LiveOfferLemmas
-- The offers that are blocked after a run have tickets that are live.
mod BlockedLemmas
-- How parties stand at each moment of a run: which are blocked, and how many wait at most.
mod StandingLemmas
-- What an action of a run offers, and how often a ticket of a send is issued and ended.
mod SentOfferLemmas
-- What a course sends is what its actions offer, and it ends each ticket as often as it issues it.
mod SentCourseLemmas
-- What some parties sent, together, is what is kept of the offers of a run, in their order.
mod SentOrderLemmas
-- How much is left in a channel after whole calls.
mod LeftLemmas
-- What whole calls sent is what they got, and then what is left.
mod ExchangeLemmas
-- What each receiver got of each sender.
mod RouteLemmas
-- Sums over the lists of parties.
mod SumLemmas
-- Lists that are merged of merged ones.
mod JoinLemmas
-- What some parties sent before others sent.
mod PhaseLemmas
-- The message that comes back from a call that sends is the one that it offered.
mod ComesBackLemmas
-- Some elements of a list, in its order.
mod SublistLemmas
-- What one party got is, in its order, among what was handed out, whatever others did.
mod GotAmongLemmas
-- What one party got was offered, and kept.
mod GotOfferedLemmas
-- What callers cite: parties that become one again, and what they sent and got.
pub mod TakeInLemmas
-- What callers cite: a party that goes on after it took in others, so that they sent before it.
pub mod GoOnLemmas
-- What callers cite by `using`: a loop in which a party makes a call after the other.
pub mod LoopLemmas
-- What callers cite: an invariant of their own, before the first call and after one more.
pub mod InvariantLemmas
-- What callers cite: a party that made calls, and then confirmed.
pub mod ConfirmLemmas
-- What callers cite: a thread that sends what it makes of what it gets, and what comes out of it.
pub mod ForwardLemmas
-- What callers cite: clients that ask one server, and what it replies to each.
pub mod ReplyLemmas
-- What callers cite: calls one after the other.
pub use Rattle.flume_actions.proofs.CallerLemmas
