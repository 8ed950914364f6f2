-- The signal that a live ticket left last is there.
use Rattle.std.proofs.Common.{sym}
use Rattle.flume_calls.proofs.due.ring_for.Goals as goal

pub unreachable-requires : goal.unreachable-requires
unreachable-requires g c = c.requires.live (sym c.in_default.ensures.signal)
