-- Blocked messages move in one after the other while the queue has room.
use Rattle.std.proofs.Common.{sym, ◌∙◌, rules}
use Rattle.flume_core.proofs.DrainLemmas.{fills_none_full}
use Rattle.flume_core.proofs.chan.Chan.fill_up.Goals as goal

pub returns-then-not-has_room : goal.returns-then-not-has_room
returns-then-not-has_room g c =
    record { filled = sym (fills_none_full c.loop-self.self (search rules)) ∙ c.loop-self.invariant }
