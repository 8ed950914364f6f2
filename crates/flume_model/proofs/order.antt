-- The shape of each run: what was kept and handed out, the line, tickets.
-- What each change leaves of the kept offers and of those not handed out.
pub mod KeptLemmas
-- The parts of the kept offers, the shape of a log, and what they say of the line.
pub mod PartLemmas
-- Each change that fits leaves the parts of the kept offers so.
pub mod PartsAfterLemmas
-- Each change that fits leaves the tickets rising, and withdraws an offer with one that was issued.
pub mod TicketsAfterLemmas
-- After each change that fits as much is queued as the line and the capacity allow.
pub mod RoomAfterLemmas
-- While a receiver waits, the queue is the whole line: so it is after each change that fits.
pub mod WholeAfterLemmas
-- What holds of each run: the laws.
pub mod RunLemmas
-- What one pair of a run does to the line, and that tickets in the line are apart.
pub mod LineStepLemmas
-- What the tickets of a run tell: what was handed out stays, and a live ticket taken in is below the blocked ones.
pub mod TicketLemmas
