-- What becomes of the sums of a ledger's rows if one row has more.
mod SumLemmas
-- Rows along a ledger's chain: a holder's row is met there, and gets more.
mod RowLemmas
-- A ledger's invariant is opened, and its book and a share get the same weight.
mod OpeningLemmas
