-- Properties that some element of a list has.
mod AnyLemmas
-- The elements of a list from a place on.
mod FromLemmas
-- The least number with one property or another.
mod LeastLemmas
-- Receipts that aren't above the one before them.
mod NeighbourLemmas
-- What a search finds in a list of receipts whose numbers rise as far as it looks.
mod RisingLemmas
-- The only receipt with a number, as it is found list by list.
mod OnlyReceiptLemmas
-- The least number at which a history and receipts disagree, from the least misplaced number.
mod DisagreementLemmas
-- A history is settled exactly if it and the receipts disagree nowhere.
mod SettledLemmas
-- What a step leaves of a book and of a seat.
mod StepLemmas
-- What is answered as an audit is closed.
mod ClosingLemmas
