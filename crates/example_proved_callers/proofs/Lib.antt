mod ReturnLemmas
mod TurnLemmas
mod SendLemmas
mod ReceiveLemmas
mod CountLemmas
mod PassLemmas
